-- A reader behind one more byte, and at the end of the input.
use Rattle.std.proofs.Common.{◌≡◌, ℕ, Bool, true, false, ◌+◌, ◌<◌, ◌^◌, List, [], ◌∷◌, ◌++◌, length, reverse, Some, None, ⊎_elim, if◌then◌else◌, refl, sym, ◌∙◌, ap, subst, append_assoc, append-nil, length-append, arith}
use Rattle.std.specs.List.{flat_map}
use Rattle.std.proofs.lemmas.Bool.{both_ways}
use Rattle.lexical_core.specs.declared.rule.Rule.{Rule}
use Rattle.lexical_core.specs.declared.rule.Rule.TheVariants.{Truncated}
use Rattle.markup.specs.inner.Drafts.{no_draft}
use Rattle.markup.specs.Token.{Token, Start, End, LineEnd, Line, Cr, CrLf, token_bytes}
use Rattle.markup.specs.Marks.{in_cdata, Cell, Front}
use Rattle.markup.specs.Events.{Placed, events, items_of, open_tags}
use Rattle.markup.specs.Faults.{rule_of, IsClean, MarkFaultUnder, is_over}
use Rattle.markup.specs.Longest.{IsLongestUnder}
use Rattle.markup.specs.EventItems.{Tells, TellsFront, TellsClean}
use Rattle.markup.specs.Scopes.{placed_at}
use Rattle.markup.specs.inner.Contexts.{IsContext, TakesToken}
use Rattle.markup.specs.inner.ScanRuns.{ended_of, draft_of}
use Rattle.markup.specs.inner.TokenRules.{items_by, is_cdata, ends_tag}
use Rattle.markup.specs.inner.Tokenizers.{More, EndedToken, Refused, without_draft, handed_out, IsTokenOpen, IsAwaited, Finishes, FinishesBy, SettlesBy, EndsToken, AdvancesBy, open_at}
use Rattle.markup.specs.inner.Inputs.{ReadsTokens, Any, Begins, with_pending, is_cut, is_return, settled_tokens, settled_events, SettlesInput, ReadsMore, ReadsToken}
use Rattle.markup.specs.Reading.{Keeps, HasTakenUnder, HasToldUnder, GoesOnUnder, RefusesUnder, RunsOutUnder, StopsUnder, IsWhollyUnder}
use Rattle.markup.specs.declared.reader.MarkError.{MarkError}
use Rattle.markup.specs.declared.reader.MarkError.TheVariants.{Refused as RefusedBy, Memory as NoMemory}
use Rattle.markup.specs.inner.ReaderSteps.{TellsMore, SettlesEvents, TokenStopped, return_items}
use Rattle.markup.specs.declared.context.Context.{Context}
use Rattle.markup.specs.declared.draft.Draft.{Draft}
use Rattle.markup.specs.declared.event.Event.{Event}
use Rattle.markup.specs.declared.reader.Reader.{Reader}
use Rattle.markup.specs.declared.reader.MarkFault.{MarkFault as Told}
use Rattle.markup.specs.declared.scan.Ended.{Ended}
use Rattle.markup.specs.declared.tokenizer.Settled.{Settled}
use Rattle.markup.specs.declared.tokenizer.Finish.{Finish}
use Rattle.markup.specs.declared.tokenizer.Finish.TheVariants.{Nothing, Return, Open}
use Rattle.markup.specs.declared.tokenizer.Tokenizer.{Tokenizer}
use Rattle.markup.proofs.SettleLemmas.{finishes_by}
use Rattle.markup.proofs.InputLemmas.{front_snoc, reverse_snoc, clean_snoc, reads_start, reads_none, reads_token}
use Rattle.markup.proofs.InputEnds.{clean_pending, over_pending, reads_longest, to_end, ends_cut, ends_open, none_but_truncated}
use Rattle.markup.proofs.InputEvents.{none_pending, pending_same, no_fault_behind, events-ended}
use Rattle.markup.proofs.InputSteps.{settles_input, advances_input}
use Rattle.markup.proofs.LineEnds.{crlf_stands, awaited_crlf, ends_crlf, line_bytes}
use Rattle.markup.proofs.TokenRuleLemmas.{items_ended, in_cdata-open}
use Rattle.markup.proofs.EventLemmas.{events_return}
use Rattle.markup.proofs.EventTells.{tells_none, tells_twice}
use Rattle.markup.proofs.NoCut.{stays_no_cut}
use Rattle.markup.proofs.TokensBehind.{behind}

-- some end of the tokenizer
abbrev finish_of : Tokenizer → Finish
finish_of z = open_at z.scan z

finish_is : (z : Tokenizer) → FinishesBy z (finish_of z)
finish_is z = finishes_by z (finish_of z) refl

none : ◌≡◌ {A = List ℕ} [] (13 ∷ []) → ⊥
none h = cc

-- nothing is handed out where nothing is held
pub kept : (z : Tokenizer) → z.draft ≡ no_draft → without_draft z ≡ z
kept z h = ap (λ d. record { alloc = z.alloc; limit = z.limit; utf8 = z.utf8; position = z.position; scan = z.scan; draft = d; start = z.start; place = z.place }) (sym h)

-- a token that is no tag says nothing
no_tag : (t : Token) → ends_tag (ended_of t) ≡ false → draft_of t ≡ no_draft
no_tag (Start t) h = absurd (both_ways true h refl)
no_tag (End n g) h = absurd (both_ways true h refl)
no_tag _ h = refl

-- so it is left as it stands
pub handed : {limit : ℕ} (e : Ended) (z : Tokenizer) (before : List Token) (bytes : List ℕ) → EndsToken limit (without_draft z) before bytes e z.draft → handed_out e z ≡ without_draft z
handed e z before bytes t = by (ends_tag e) refl where
  by : (b : Bool) → ends_tag e ≡ b → (if b then without_draft z else z) ≡ without_draft z
  by true h = refl
  by false h = sym (kept z (sym t.draft_is ∙ no_tag t.token (ap ends_tag t.ended_is ∙ h)))

-- before the first byte
pub new_taken : {limit : ℕ} (z : Tokenizer) (c : Context) → IsTokenOpen limit z [] [] → z.place ≡ 0 → IsContext c [] → HasTakenUnder limit (record { tokenizer = z; context = c; failed = None }) [] []
new_taken {limit} z c o p k = (
  [],
  record {
    reads = reads_none z o;
    clean = tt;
    place = p;
    context = k;
    told_are = λ f q. by f (q limit [] [] o);
    sound = refl;
  },
) where
  by : (f : Finish) → Finishes limit [] [] f → [] ≡ events [] 0 (with_pending f [])
  by Nothing h = refl
  by Return h = absurd (none (h.0 ∙ line_bytes.2))
  by Open h = refl

-- tokens of the input whose events are told, and which break no rule
record ToldFront (limit : ℕ) (input : List ℕ) (told : List Placed) : Type 0 where
  tokens : List Token
  rest : List ℕ
  front : Front limit [] input tokens rest
  clean : IsClean [] tokens
  events_are : told ≡ events [] 0 tokens

told_front : {limit : ℕ} (z : Tokenizer) (input : List ℕ) (ts : List Token) (byte : ℕ) (f : Finish) → ReadsTokens limit (Begins byte) z input ts → IsClean [] ts → IsAwaited z.scan byte → FinishesBy z f → ToldFront limit (input ++ byte ∷ []) (events [] 0 (with_pending f ts))
told_front {limit} z input ts byte f r l w q = by f (q limit (reverse ts) r.bytes r.opens) where
  by : (f : Finish) → Finishes limit (reverse ts) r.bytes f → ToldFront limit (input ++ byte ∷ []) (events [] 0 (with_pending f ts))
  by Nothing h = record { tokens = ts; rest = r.bytes ++ byte ∷ []; front = r.front (byte ∷ []) ([], refl); clean = l; events_are = refl }
  by Open h = record { tokens = ts; rest = r.bytes ++ byte ∷ []; front = r.front (byte ∷ []) ([], refl); clean = l; events_are = refl }
  by Return h = record {
    tokens = ts ++ LineEnd CrLf ∷ [];
    rest = [];
    front = front_snoc limit [] (input ++ byte ∷ []) (r.bytes ++ byte ∷ []) [] ts (LineEnd CrLf) (r.front (byte ∷ []) ([], refl))
        (subst (λ b. Cell b (LineEnd CrLf) (r.bytes ++ byte ∷ []) []) (behind ts) (record { spelled = awaited_crlf z (reverse ts) r.bytes byte r.opens h.0 w ∙ sym (append-nil (token_bytes (LineEnd CrLf))); is = crlf_stands (reverse ts) [] })) refl;
    clean = clean_snoc ts (LineEnd CrLf) l refl;
    events_are = events_return ts;
  }

-- no memory, behind events that were told
runs_out : {limit : ℕ} (z : Tokenizer) (input : List ℕ) (ts : List Token) (byte : ℕ) (f : Finish) (told front behind : List Placed) (old new : List Event) → ReadsTokens limit (Begins byte) z input ts → IsClean [] ts → IsAwaited z.scan byte → FinishesBy z f → told ++ (front ++ behind) ≡ events [] 0 (with_pending f ts) → Tells old new front → RunsOutUnder limit (input ++ byte ∷ []) told old new
runs_out {limit} z input ts byte f told front behind old new r l w q e t =
    let k : ToldFront limit (input ++ byte ∷ []) (events [] 0 (with_pending f ts)) = told_front z input ts byte f r l w q in
    record { front = front; behind = behind; tokens = k.tokens; rest = k.rest; front_is = k.front; clean = k.clean; events_are = e ∙ k.events_are; tells = t }

module _ {limit : ℕ} (reader : Reader) (input : List ℕ) (ts : List Token) (told : List Placed) where
  -- where the open token begins
  pub starts : (k : Keeps limit Any reader input ts told) → reader.tokenizer.start ≡ length (flat_map token_bytes ts)
  starts k = reads_start Any reader.tokenizer input ts [] tt k.reads k.place

  starts_begins : (byte : ℕ) (k : Keeps limit (Begins byte) reader input ts told) → reader.tokenizer.start ≡ length (flat_map token_bytes ts)
  starts_begins byte k = reads_start (Begins byte) reader.tokenizer input ts (byte ∷ []) ([], refl) k.reads k.place

  pub start_below : (k : Keeps limit Any reader input ts told) → reader.tokenizer.place < 2 ^ 40 → reader.tokenizer.start < 2 ^ 40
  start_below k p = below reader.tokenizer.place reader.tokenizer.start (length k.reads.bytes) (2 ^ 40) k.reads.opens.place_is p where
    below : (p s n m : ℕ) → p ≡ s + n → p < m → s < m
    below p s n m e l = omega (arith, e, l)

  -- what a byte does not go on with
  module _ (z : Tokenizer) (c : Context) (byte : ℕ) (s : Settled) (old new : List Event) (k : Keeps limit Any reader input ts told) (b : SettlesBy reader.tokenizer z byte s) where
    settled : SettlesInput limit reader.tokenizer z input ts byte s
    settled = settles_input reader.tokenizer z input ts byte s b k.reads k.clean

    settled_told : (g : Finish) → FinishesBy z g → told ++ settled_events reader.tokenizer.start s ≡ events [] 0 (with_pending g (settled_tokens s ts))
    settled_told g q =
        let a : events [] 0 (with_pending g (settled_tokens s ts)) ≡ events [] 0 (with_pending (finish_of reader.tokenizer) ts) ++ settled_events (length (flat_map token_bytes ts)) s
        = settled.adds (finish_of reader.tokenizer) g (finish_is reader.tokenizer) q in
        ap (λ v. told ++ settled_events v s) (starts k) ∙ (ap (λ v. v ++ settled_events (length (flat_map token_bytes ts)) s) (k.told_are (finish_of reader.tokenizer) (finish_is reader.tokenizer)) ∙ sym a)

    pub settle_ok : z.place ≡ reader.tokenizer.place → IsContext c (reverse (settled_tokens s ts)) → Tells old new (settled_events reader.tokenizer.start s) → SettlesEvents limit (record { tokenizer = z; context = c; failed = reader.failed }) input told byte old new
    settle_ok p h t = record {
      tells = record {
        tokens = settled_tokens s ts;
        more = settled_events reader.tokenizer.start s;
        tells = t;
        keeps = record { reads = settled.reads; clean = settled.clean; place = p ∙ k.place; context = h; told_are = settled_told; sound = k.sound };
      };
      awaited = settled.awaited;
    }

    pub settle_err : TellsFront old new (settled_events reader.tokenizer.start s) → RunsOutUnder limit (input ++ byte ∷ []) told old new
    settle_err t = runs_out z input (settled_tokens s ts) byte (finish_of z) told t.front t.behind old new settled.reads settled.clean settled.awaited (finish_is z)
        (ap (λ v. told ++ v) (sym t.front_is) ∙ settled_told (finish_of z) (finish_is z)) t.tells

  -- no memory for the byte
  pub advance_out : (byte : ℕ) (old new : List Event) (k : Keeps limit (Begins byte) reader input ts told) → IsAwaited reader.tokenizer.scan byte → new ≡ old → RunsOutUnder limit (input ++ byte ∷ []) told old new
  advance_out byte old new k w e = runs_out reader.tokenizer input ts byte (finish_of reader.tokenizer) told [] [] old new k.reads k.clean w (finish_is reader.tokenizer) (append-nil told ∙ k.told_are (finish_of reader.tokenizer) (finish_is reader.tokenizer)) (tells_none old new e)

  -- the byte itself
  module _ (z : Tokenizer) (byte : ℕ) (old new : List Event) (k : Keeps limit (Begins byte) reader input ts told) (w : IsAwaited reader.tokenizer.scan byte) (p : z.place ≡ reader.tokenizer.place + 1) where
    abbrev f : Finish
    f = finish_of reader.tokenizer

    place_now : z.place ≡ length (input ++ byte ∷ [])
    place_now = p ∙ (ap (λ n. n + 1) k.place ∙ sym (length-append input (byte ∷ [])))

    pub advance_more : (g : Finish) → FinishesBy z g → AdvancesBy reader.tokenizer z byte More → Tells old new (return_items g reader.tokenizer.start) → TellsMore limit Any (record { tokenizer = z; context = reader.context; failed = reader.failed }) (input ++ byte ∷ []) told old new
    advance_more g q a t = record {
      tokens = ts;
      more = return_items g reader.tokenizer.start;
      tells = t;
      keeps = record { reads = m.reads; clean = k.clean; place = place_now; context = k.context; told_are = told_now; sound = k.sound };
    } where
      m : ReadsMore limit reader.tokenizer z (input ++ byte ∷ []) ts
      m = advances_input reader.tokenizer z input ts byte More a k.reads w k.clean

      told_now : (h : Finish) → FinishesBy z h → told ++ return_items g reader.tokenizer.start ≡ events [] 0 (with_pending h ts)
      told_now h r =
          ap (λ v. told ++ return_items g v) (starts_begins byte k) ∙ (ap (λ v. v ++ return_items g (length (flat_map token_bytes ts))) (k.told_are f (finish_is reader.tokenizer))
          ∙ (sym (m.adds f g (finish_is reader.tokenizer) q) ∙ ap (events [] 0) (pending_same z (reverse ts) m.reads.bytes g h m.reads.opens q r ts)))

    -- whatever follows the byte, the tokens stand at the front
    fronts_behind : (behind : List ℕ) → Front limit [] ((input ++ byte ∷ []) ++ behind) ts ((k.reads.bytes ++ byte ∷ []) ++ behind)
    fronts_behind behind = subst (λ v. Front limit [] v ts ((k.reads.bytes ++ byte ∷ []) ++ behind)) (sym (append_assoc input (byte ∷ []) behind))
        (subst (λ v. Front limit [] (input ++ byte ∷ behind) ts v) (sym (append_assoc k.reads.bytes (byte ∷ []) behind)) (k.reads.front (byte ∷ behind) (behind, refl)))

    pub advance_refused : (rule : Rule) → AdvancesBy reader.tokenizer z byte (Refused rule) → new ≡ old → RefusesUnder limit (input ++ byte ∷ []) told old new (record { rule = rule; place = reader.tokenizer.start })
    advance_refused rule a e = record {
      more = [];
      tells = tells_none old new e;
      tokens = ts;
      rest = k.reads.bytes ++ byte ∷ [];
      front = fronts_behind;
      clean = k.clean;
      before = sym (starts_begins byte k);
      events_are = append-nil told ∙ told_now;
      has_fault = shown;
      no_cut = stays_no_cut (input ++ byte ∷ []) (record { rule = rule; place = reader.tokenizer.start }) shown;
    } where
      shown : (more : List ℕ) → MarkFaultUnder limit ((input ++ byte ∷ []) ++ more) (record { rule = rule; place = reader.tokenizer.start })
      shown more = subst (λ n. MarkFaultUnder limit ((input ++ byte ∷ []) ++ more) (record { rule = rule; place = n })) (sym (starts_begins byte k)) (advances_input reader.tokenizer z input ts byte (Refused rule) a k.reads w k.clean more)

      told_now : told ≡ events [] 0 ts
      told_now = k.told_are f (finish_is reader.tokenizer) ∙ by f (finish_is reader.tokenizer limit (reverse ts) k.reads.bytes k.reads.opens) where
        by : (f : Finish) → Finishes limit (reverse ts) k.reads.bytes f → events [] 0 (with_pending f ts) ≡ events [] 0 ts
        by Nothing h = refl
        by Open h = refl
        by Return h = absurd (no_fault_behind reader.tokenizer z ts k.reads.bytes byte f (finish_of z) k.reads.opens (finish_is reader.tokenizer) (finish_is z) w h.0 rule (a limit (reverse ts) k.reads.bytes k.reads.opens w))

    -- a token that ends, whose events are to be told
    module _ (e : Ended) (d : Draft) (a : AdvancesBy reader.tokenizer z byte (EndedToken e d)) (h : Finish) (q : FinishesBy reader.tokenizer h) (n : is_return h ≡ false) where
      abbrev pub m : ReadsToken limit reader.tokenizer z (input ++ byte ∷ []) ts e d
      m = advances_input reader.tokenizer z input ts byte (EndedToken e d) a k.reads w k.clean

      abbrev pub token_events : List Placed
      token_events = placed_at reader.tokenizer.start (items_of (reverse ts) m.token)

      token_told : (g : Finish) → FinishesBy z g → told ++ token_events ≡ events [] 0 (with_pending g (ts ++ m.token ∷ []))
      token_told g r =
          ap (λ v. told ++ placed_at v (items_of (reverse ts) m.token)) (starts_begins byte k)
          ∙ (ap (λ v. told ++ placed_at (length (flat_map token_bytes ts)) v) (items_ended (reverse ts) m.token e m.ended_is d m.draft_is)
          ∙ (ap (λ v. v ++ placed_at (length (flat_map token_bytes ts)) (items_by (open_tags (reverse ts)) e d)) (k.told_are h q)
          ∙ (ap (λ b. events [] 0 (with_pending h ts) ++ (if b then [] else placed_at (length (flat_map token_bytes ts)) (items_by (open_tags (reverse ts)) e d))) (sym n)
          ∙ sym (m.adds h g q r))))

      pub token_ok : (c : Context) → TakesToken (reverse ts) m.token reader.tokenizer.start old new c → TellsMore limit Any (record { tokenizer = z; context = c; failed = reader.failed }) (input ++ byte ∷ []) told old new
      token_ok c t = record {
        tokens = ts ++ m.token ∷ [];
        more = token_events;
        tells = t.tells;
        keeps = record { reads = m.reads; clean = m.clean t.clean; place = place_now; context = subst (IsContext c) (sym (reverse_snoc ts m.token)) t.context_is; told_are = token_told; sound = k.sound };
      }

      -- the reader that the token leaves
      pub token_here : (r : Reader) → r.tokenizer ≡ z → r.failed ≡ reader.failed → TakesToken (reverse ts) m.token reader.tokenizer.start old new r.context → TellsMore limit Any r (input ++ byte ∷ []) told old new
      token_here r x y t = subst (λ v. TellsMore limit Any (record { tokenizer = v; context = r.context; failed = r.failed }) (input ++ byte ∷ []) told old new) (sym x)
          (subst (λ v. TellsMore limit Any (record { tokenizer = z; context = r.context; failed = v }) (input ++ byte ∷ []) told old new) (sym y) (token_ok r.context t))

      pub token_broken : (rule : Rule) → rule_of (reverse ts) m.token ≡ Some rule → new ≡ old → RefusesUnder limit (input ++ byte ∷ []) told old new (record { rule = rule; place = reader.tokenizer.start })
      token_broken rule b s = record {
        more = [];
        tells = tells_none old new s;
        tokens = ts;
        rest = k.reads.bytes ++ byte ∷ [];
        front = fronts_behind;
        clean = k.clean;
        before = sym (starts_begins byte k);
        events_are = append-nil told ∙ (k.told_are h q ∙ ap (events [] 0) (none_pending h ts n));
        has_fault = shown;
        no_cut = stays_no_cut (input ++ byte ∷ []) (record { rule = rule; place = reader.tokenizer.start }) shown;
      } where
        shown : (more : List ℕ) → MarkFaultUnder limit ((input ++ byte ∷ []) ++ more) (record { rule = rule; place = reader.tokenizer.start })
        shown more = subst (λ n. MarkFaultUnder limit ((input ++ byte ∷ []) ++ more) (record { rule = rule; place = n })) (sym (starts_begins byte k)) (m.broken rule b more)

      -- no memory for the events of the token
      token_begun : rule_of (reverse ts) m.token ≡ None → TellsFront old new token_events → RunsOutUnder limit (input ++ byte ∷ []) told old new
      token_begun c t =
          let l : IsLongestUnder limit (input ++ byte ∷ []) (with_pending (finish_of z) (ts ++ m.token ∷ [])) = reads_longest z (input ++ byte ∷ []) (ts ++ m.token ∷ []) m.reads (finish_of z) (finish_is z) in
          record {
            front = t.front;
            behind = t.behind;
            tokens = with_pending (finish_of z) (ts ++ m.token ∷ []);
            rest = l.rest;
            front_is = l.front;
            clean = clean_pending (finish_of z) (ts ++ m.token ∷ []) (m.clean c);
            events_are = ap (λ v. told ++ v) (sym t.front_is) ∙ token_told (finish_of z) (finish_is z);
            tells = t.tells;
          }

      pub token_out : TellsClean (rule_of (reverse ts) m.token) old new token_events → RunsOutUnder limit (input ++ byte ∷ []) told old new
      token_out t = ⊎_elim (λ c. token_begun c t.0) (λ s. advance_out byte old new k w s) t.1

      -- by the answer of the context
      module _ (Answers : (before : List Token) (t : Token) → IsContext reader.context before → ended_of t ≡ e → draft_of t ≡ d → in_cdata before ≡ is_cdata reader.tokenizer.position → Type 0)
          (answers : (before : List Token) (t : Token) (i : IsContext reader.context before) (x : ended_of t ≡ e) (y : draft_of t ≡ d) (v : in_cdata before ≡ is_cdata reader.tokenizer.position) → Answers before t i x y v) where
        pub answered : Answers (reverse ts) m.token k.context m.ended_is m.draft_is (in_cdata-open reader.tokenizer (reverse ts) k.reads.bytes k.reads.opens)
        answered = answers (reverse ts) m.token k.context m.ended_is m.draft_is (in_cdata-open reader.tokenizer (reverse ts) k.reads.bytes k.reads.opens)

      pub token_stopped : (x : MarkError) → TokenStopped (reverse ts) m.token reader.tokenizer.start old new x → StopsUnder limit (input ++ byte ∷ []) told old new x
      token_stopped (RefusedBy fault) h = subst (λ v. RefusesUnder limit (input ++ byte ∷ []) told old new (record { rule = fault.rule; place = v })) (sym h.1) (token_broken fault.rule h.0 h.2)
      token_stopped NoMemory h = token_out h

    -- a line end whose CR was told
    module _ (e : Ended) (d : Draft) (a : AdvancesBy reader.tokenizer z byte (EndedToken e d)) (h : Finish) (q : FinishesBy reader.tokenizer h) (n : is_return h ≡ true) where
      line : EndsToken limit z (reverse ts) (k.reads.bytes ++ byte ∷ []) e d
      line = a limit (reverse ts) k.reads.bytes k.reads.opens w

      return_bytes : (h : Finish) → Finishes limit (reverse ts) k.reads.bytes h → is_return h ≡ true → k.reads.bytes ≡ token_bytes (LineEnd Cr)
      return_bytes Nothing g n = absurd (both_ways false refl n)
      return_bytes Open g n = absurd (both_ways false refl n)
      return_bytes Return g n = g.0

      joined : line.token ≡ LineEnd CrLf
      joined = ends_crlf reader.tokenizer z (reverse ts) k.reads.bytes byte e d k.reads.opens (return_bytes h (q limit (reverse ts) k.reads.bytes k.reads.opens) n) w line

      pub return_draft : d ≡ no_draft
      return_draft = sym line.draft_is ∙ ap draft_of joined

      pub return_ok : (c : Context) → ((before : List Token) (line : Line) → IsContext reader.context before → IsContext c (LineEnd line ∷ before)) → new ≡ old → TellsMore limit Any (record { tokenizer = z; context = c; failed = reader.failed }) (input ++ byte ∷ []) told old new
      return_ok c i s = record {
        tokens = ts ++ LineEnd CrLf ∷ [];
        more = [];
        tells = tells_none old new s;
        keeps = record {
          reads = subst (λ t. ReadsTokens limit Any z (input ++ byte ∷ []) (ts ++ t ∷ [])) joined (reads_token z input byte ts reader.tokenizer k.reads e d line);
          clean = clean_snoc ts (LineEnd CrLf) k.clean refl;
          place = place_now;
          context = subst (IsContext c) (sym (reverse_snoc ts (LineEnd CrLf))) (i (reverse ts) CrLf k.context);
          told_are = told_now;
          sound = k.sound;
        };
      } where
        told_now : (g : Finish) → FinishesBy z g → told ++ [] ≡ events [] 0 (with_pending g (ts ++ LineEnd CrLf ∷ []))
        told_now g r =
            ap (λ v. v ++ []) (k.told_are h q)
            ∙ (ap (λ b. events [] 0 (with_pending h ts) ++ (if b then [] else placed_at (length (flat_map token_bytes ts)) (items_by (open_tags (reverse ts)) e d))) (sym n)
            ∙ (sym (events-ended reader.tokenizer z ts k.reads.bytes byte h g k.reads.opens q r w e d line)
            ∙ ap (λ v. events [] 0 (with_pending g (ts ++ v ∷ []))) joined))

-- both steps
pub step_ok : {limit : ℕ} (r1 r2 : Reader) (bytes : List ℕ) (told : List Placed) (byte : ℕ) (o0 o1 o2 : List Event) (s : SettlesEvents limit r1 bytes told byte o0 o1) → TellsMore limit Any r2 (bytes ++ byte ∷ []) (told ++ s.tells.more) o1 o2 → GoesOnUnder limit r2 (bytes ++ byte ∷ []) told o0 o2
step_ok {limit} r1 r2 bytes told byte o0 o1 o2 s a =
    let z = r2.tokenizer in
    let e : (told ++ s.tells.more) ++ a.more ≡ told ++ (s.tells.more ++ a.more) = append_assoc told s.tells.more a.more in
    record {
      more = s.tells.more ++ a.more;
      tells = tells_twice o0 o1 o2 s.tells.more a.more s.tells.tells a.tells;
      taken_are = (a.tokens, subst (Keeps limit Any r2 (bytes ++ byte ∷ []) a.tokens) e a.keeps);
      are_events = (
        with_pending (finish_of z) a.tokens,
        reads_longest z (bytes ++ byte ∷ []) a.tokens a.keeps.reads (finish_of z) (finish_is z),
        clean_pending (finish_of z) a.tokens a.keeps.clean,
        sym e ∙ a.keeps.told_are (finish_of z) (finish_is z),
      );
      only_cut = none_but_truncated z (bytes ++ byte ∷ []) a.tokens a.keeps.reads a.keeps.clean;
    }

pub step_refused : {limit : ℕ} (bytes : List ℕ) (told more : List Placed) (o0 o1 o2 : List Event) (fault : Told) → Tells o0 o1 more → RefusesUnder limit bytes (told ++ more) o1 o2 fault → RefusesUnder limit bytes told o0 o2 fault
step_refused bytes told more o0 o1 o2 fault t k = record {
  more = more ++ k.more;
  tells = tells_twice o0 o1 o2 more k.more t k.tells;
  tokens = k.tokens;
  rest = k.rest;
  front = k.front;
  clean = k.clean;
  before = k.before;
  events_are = sym (append_assoc told more k.more) ∙ k.events_are;
  has_fault = k.has_fault;
  no_cut = k.no_cut;
}

regrouped : (a b c d : List Placed) → a ++ ((b ++ c) ++ d) ≡ (a ++ b) ++ (c ++ d)
regrouped a b c d = ap (λ v. a ++ v) (append_assoc b c d) ∙ sym (append_assoc a b (c ++ d))

pub step_out : {limit : ℕ} (bytes : List ℕ) (told more : List Placed) (o0 o1 o2 : List Event) → Tells o0 o1 more → RunsOutUnder limit bytes (told ++ more) o1 o2 → RunsOutUnder limit bytes told o0 o2
step_out bytes told more o0 o1 o2 t k = record {
  front = more ++ k.front;
  behind = k.behind;
  tokens = k.tokens;
  rest = k.rest;
  front_is = k.front_is;
  clean = k.clean;
  events_are = regrouped told more k.front k.behind ∙ k.events_are;
  tells = tells_twice o0 o1 o2 more k.front t k.tells;
}

-- what a reader has taken is all told
pub told_so_far : {limit : ℕ} (reader : Reader) (bytes : List ℕ) (told : List Placed) → HasTakenUnder limit reader bytes told → HasToldUnder limit reader bytes told
told_so_far reader bytes told h =
    let z = reader.tokenizer in
    record {
      taken_are = h;
      are_events = (
        with_pending (finish_of z) h.0,
        reads_longest z bytes h.0 h.1.reads (finish_of z) (finish_is z),
        clean_pending (finish_of z) h.0 h.1.clean,
        h.1.told_are (finish_of z) (finish_is z),
      );
      only_cut = none_but_truncated z bytes h.0 h.1.reads h.1.clean;
    }

-- the end of the input
not_cut : (f : Finish) → (f ≡ Open → ⊥) → is_cut f ≡ false
not_cut Nothing n = refl
not_cut Return n = refl
not_cut Open n = absurd (n refl)

module _ {limit : ℕ} (reader : Reader) (input : List ℕ) (told : List Placed) (h : HasTakenUnder limit reader input told) (f : Finish) (q : FinishesBy reader.tokenizer f) where
  abbrev ts : List Token
  ts = h.0

  abbrev k : Keeps limit Any reader input ts told
  k = h.1

  cut_here : MarkFaultUnder limit input (record { rule = Truncated; place = length input }) → MarkFaultUnder limit input (record { rule = Truncated; place = reader.tokenizer.place })
  cut_here m = subst (λ n. MarkFaultUnder limit input (record { rule = Truncated; place = n })) (sym k.place) m

  pub finish_open : f ≡ Open → MarkFaultUnder limit input (record { rule = Truncated; place = reader.tokenizer.place })
  finish_open e = cut_here (ends_open reader.tokenizer input ts k.reads (subst (FinishesBy reader.tokenizer) e q) k.clean)

  pub finish_cut : (f ≡ Open → ⊥) → is_over (reverse ts) ≡ false → MarkFaultUnder limit input (record { rule = Truncated; place = reader.tokenizer.place })
  finish_cut n o = cut_here (ends_cut reader.tokenizer input ts k.reads f q k.clean (not_cut f n) o)

  pub finish_whole : (f ≡ Open → ⊥) → is_over (reverse ts) ≡ true → IsWhollyUnder limit input told
  finish_whole n o = (
    with_pending f ts,
    to_end reader.tokenizer input ts k.reads f q f (q limit (reverse ts) k.reads.bytes k.reads.opens) (not_cut f n),
    clean_pending f ts k.clean,
    over_pending f ts ∙ o,
    k.told_are f q,
  )

pub step_stops : (limit : ℕ) (bytes : List ℕ) (told more : List Placed) (o0 o1 o2 : List Event) (e : MarkError) → Tells o0 o1 more → StopsUnder limit bytes (told ++ more) o1 o2 e → StopsUnder limit bytes told o0 o2 e
step_stops limit bytes told more o0 o1 o2 (RefusedBy fault) t k = step_refused bytes told more o0 o1 o2 fault t k
step_stops limit bytes told more o0 o1 o2 NoMemory t k = step_out bytes told more o0 o1 o2 t k
