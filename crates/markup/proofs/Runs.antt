-- Runs of the scan over characters, with what an open tag says.
use Rattle.std.proofs.Common.{◌≡◌, ℕ, Bool, true, false, ◌==◌, ◌&&◌, List, [], ◌∷◌, ◌++◌, refl, sym, ◌∙◌, ap, append_assoc, append-nil}
use Rattle.std.specs.List.{list_all}
use Rattle.std.specs.Char.{encode_utf8}
use Rattle.std.specs.Str.{encode_utf8_all}
use Rattle.std.proofs.lemmas.Bool.{and_parts, or_parts}
use Rattle.markup.specs.Chars.{is_name_start, is_name_char, is_space}
use Rattle.markup.specs.Name.{Name, Plain, Prefixed, is_name, name_text}
use Rattle.markup.specs.Events.{spelled_name}
use Rattle.markup.specs.inner.Drafts.{no_name, add, note_character}
use Rattle.markup.specs.inner.Scans.{step, name_step, name_turn}
use Rattle.markup.specs.inner.ScanRuns.{Run, Over, turn_run, run}
use Rattle.markup.specs.declared.tag.Spelled.{Spelled}
use Rattle.markup.specs.declared.draft.Draft.{Draft}
use Rattle.markup.specs.declared.scan.NameScan.{NameScan}
use Rattle.markup.specs.declared.scan.NameScan.TheVariants.{First, Colon, Second}
use Rattle.markup.specs.declared.scan.NameTurn.TheVariants.{Remains, Ends}
use Rattle.markup.specs.declared.scan.Scan.{Scan}
use Rattle.markup.specs.declared.scan.Scan.TheVariants.{Value, AfterValue, StartName, AttributeName, EndName, BeforeEquals, EndGap}
use Rattle.markup.specs.declared.scan.Ended.{Ended}
use Rattle.markup.specs.declared.scan.Turn.{Turn}
use Rattle.markup.specs.declared.scan.Turn.TheVariants.{Goes, Whole, Stuck}
use Rattle.markup.proofs.NameLemmas.{in_name}
use Rattle.markup.proofs.CharLemmas.{colon_no_name}

-- one character leads on
pub goes : (s t : Scan) (c : ℕ) (d e : Draft) (w : List ℕ) → step s c ≡ Goes t → note_character s t c d ≡ e → run s d (c ∷ w) ≡ run t e w
goes s t c d e w h k = ap (turn_run (λ u. run u (note_character s u c d) w) d w) h ∙ ap (λ v. run t v w) k

-- one character ends the token
pub ends : (s : Scan) (e : Ended) (c : ℕ) (d : Draft) (w : List ℕ) → step s c ≡ Whole e → run s d (c ∷ w) ≡ Over e d w
ends s e c d w h = ap (turn_run (λ u. run u (note_character s u c d) w) d w) h

-- white space that leads nowhere else
pub spaces_run : (s : Scan) (d : Draft) (xs w : List ℕ) → ((c : ℕ) → is_space c ≡ true → step s c ≡ Goes s) → ((c : ℕ) → note_character s s c d ≡ d) → list_all is_space xs ≡ true → run s d (xs ++ w) ≡ run s d w
spaces_run s d [] w h k a = refl
spaces_run s d (c ∷ xs) w h k a = goes s s c d d (xs ++ w) (h c (and_parts _ _ a).0) (k c) ∙ spaces_run s d xs w h k (and_parts _ _ a).1

turned_same : (f g : Scan → Run) (d : Draft) (w : List ℕ) (t : Turn) → ((s : Scan) → f s ≡ g s) → turn_run f d w t ≡ turn_run g d w t
turned_same f g d w (Goes s) h = h s
turned_same f g d w (Whole e) h = refl
turned_same f g d w Stuck h = refl

-- two scans that take a character in the same way
pub alike_runs : (s r : Scan) (c : ℕ) (d : Draft) (w : List ℕ) → step s c ≡ step r c → ((t : Scan) → note_character s t c d ≡ note_character r t c d) → run s d (c ∷ w) ≡ run r d (c ∷ w)
alike_runs s r c d w h k = turned_same _ _ d w (step s c) (λ t. ap (λ v. run t v w) (k t)) ∙ ap (turn_run (λ t. run t (note_character r t c d) w) d w) h

pub noted_start : (n : NameScan) (t : Scan) (c : ℕ) (d : Draft) → note_character (StartName n) t c d ≡ note_character AfterValue t c d
noted_start n (Value q r) c d = refl
noted_start n _ c d = refl

pub noted_attribute : (n : NameScan) (t : Scan) (c : ℕ) (d : Draft) → note_character (AttributeName n) t c d ≡ note_character BeforeEquals t c d
noted_attribute n (Value q r) c d = refl
noted_attribute n _ c d = refl

pub noted_end : (n : NameScan) (t : Scan) (c : ℕ) (d : Draft) → note_character (EndName n) t c d ≡ note_character EndGap t c d
noted_end n (Value q r) c d = refl
noted_end n _ c d = refl

-- more characters of a name's part
abbrev pub grown : List ℕ → Spelled → Spelled
grown cs n = record { prefix = n.prefix; local = n.local ++ encode_utf8_all cs }

-- a name that is read by the scans at, into a draft that is f of it, from the scan before it to what the scan behind it does
module _ (at : NameScan → Scan) (f : Spelled → Draft) (before behind : Scan)
    (in_it : (n : NameScan) (c : ℕ) → step (at n) c ≡ name_turn at (step behind c) (name_step n c))
    (enters : (c : ℕ) → is_name_start c ≡ true → step before c ≡ Goes (at First))
    (notes : (s : Scan) (part : NameScan) (c : ℕ) (n : Spelled) → note_character s (at part) c (f n) ≡ f (add part c n))
    (leaves : (n : NameScan) (t : Scan) (c : ℕ) (d : Draft) → note_character (at n) t c d ≡ note_character behind t c d) where
  part_run : (part : NameScan) (cs w : List ℕ) (n : Spelled) → ((c : ℕ) → is_name_char c ≡ true → name_step part c ≡ Remains part) → ((c : ℕ) (n : Spelled) → add part c n ≡ record { prefix = n.prefix; local = n.local ++ encode_utf8 c }) → list_all is_name_char cs ≡ true → run (at part) (f n) (cs ++ w) ≡ run (at part) (f (grown cs n)) w
  part_run part [] w n h k a = ap (λ v. run (at part) (f (record { prefix = n.prefix; local = v })) w) (sym (append-nil n.local))
  part_run part (c ∷ cs) w n h k a =
      goes (at part) (at part) c (f n) (f (record { prefix = n.prefix; local = n.local ++ encode_utf8 c })) (cs ++ w) (in_it part c ∙ ap (name_turn at (step behind c)) (h c (and_parts _ _ a).0)) (notes (at part) part c n ∙ ap f (k c n))
      ∙ (part_run part cs w (record { prefix = n.prefix; local = n.local ++ encode_utf8 c }) h k (and_parts _ _ a).1
      ∙ ap (λ v. run (at part) (f (record { prefix = n.prefix; local = v })) w) (append_assoc n.local (encode_utf8 c) (encode_utf8_all cs)))

  first_run : (cs w : List ℕ) (n : Spelled) → list_all is_name_char cs ≡ true → run (at First) (f n) (cs ++ w) ≡ run (at First) (f (grown cs n)) w
  first_run cs w n a = part_run First cs w n (λ c h. rw h refl) (λ c n. refl) a

  second_run : (cs w : List ℕ) (n : Spelled) → list_all is_name_char cs ≡ true → run (at Second) (f n) (cs ++ w) ≡ run (at Second) (f (grown cs n)) w
  second_run cs w n a = part_run Second cs w n (λ c h. rw h refl) (λ c n. refl) a

  leave : (part : NameScan) (c : ℕ) (w : List ℕ) (d : Draft) → name_step part c ≡ Ends → run (at part) d (c ∷ w) ≡ run behind d (c ∷ w)
  leave part c w d h = alike_runs (at part) behind c d w (in_it part c ∙ ap (name_turn at (step behind c)) h) (λ t. leaves part t c d)

  -- a whole name
  pub name_run : (n : Name) (c : ℕ) (w : List ℕ) → is_name n ≡ true → in_name c ≡ false → run before (f no_name) (name_text n ++ c ∷ w) ≡ run behind (f (spelled_name n)) (c ∷ w)
  name_run (Plain []) c w h k = absurd (cc)
  name_run (Plain (b ∷ l)) c w h k =
      goes before (at First) b (f no_name) (f (add First b no_name)) (l ++ c ∷ w) (enters b (and_parts _ _ h).0) (notes before First b no_name)
      ∙ (first_run l (c ∷ w) (add First b no_name) (and_parts _ _ h).1
      ∙ leave First c w (f (spelled_name (Plain (b ∷ l)))) (rw ((or_parts (is_name_char c) (c == 58) k).0, (or_parts (is_name_char c) (c == 58) k).1) refl))
  name_run (Prefixed [] l) c w h k = absurd (cc)
  name_run (Prefixed (b ∷ p) []) c w h k = absurd (second (is_name_start b && list_all is_name_char p) h) where
    second : (x : Bool) → (x && false) ≡ true → ⊥
    second x h = absurd (and_false x h) where
      and_false : (x : Bool) → (x && false) ≡ true → ⊥
      and_false true h = cc
      and_false false h = cc
  name_run (Prefixed (b ∷ p) (e ∷ l)) c w h k =
      let g = and_parts _ _ h in
      ap (run before (f no_name)) (append_assoc (b ∷ p) (58 ∷ e ∷ l) (c ∷ w))
      ∙ (goes before (at First) b (f no_name) (f (add First b no_name)) (p ++ 58 ∷ e ∷ (l ++ c ∷ w)) (enters b (and_parts _ _ g.0).0) (notes before First b no_name)
      ∙ (first_run p (58 ∷ e ∷ (l ++ c ∷ w)) (add First b no_name) (and_parts _ _ g.0).1
      ∙ (goes (at First) (at Colon) 58 (f (spelled_name (Plain (b ∷ p)))) (f (prefixed b p)) (e ∷ (l ++ c ∷ w)) (in_it First 58 ∙ ap (name_turn at (step behind 58)) colon_goes) (notes (at First) Colon 58 (spelled_name (Plain (b ∷ p))))
      ∙ (goes (at Colon) (at Second) e (f (prefixed b p)) (f (add Second e (prefixed b p))) (l ++ c ∷ w) (in_it Colon e ∙ ap (name_turn at (step behind e)) (starts e (and_parts _ _ g.1).0)) (notes (at Colon) Second e (prefixed b p))
      ∙ (second_run l (c ∷ w) (add Second e (prefixed b p)) (and_parts _ _ g.1).1
      ∙ leave Second c w (f (spelled_name (Prefixed (b ∷ p) (e ∷ l)))) (rw (or_parts (is_name_char c) (c == 58) k).0 refl)))))) where
        prefixed : ℕ → List ℕ → Spelled
        prefixed b p = record { prefix = encode_utf8_all (b ∷ p); local = [] }

        colon_goes : name_step First 58 ≡ Remains Colon
        colon_goes = rw colon_no_name refl

        starts : (e : ℕ) → is_name_start e ≡ true → name_step Colon e ≡ Remains Second
        starts e h = rw h refl
