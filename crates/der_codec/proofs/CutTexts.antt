-- Texts that come in pieces, of which no more is kept than tells that they are too long, or are none.
use Rattle.std.proofs.Common.{◌≡◌, ℕ, zero, suc, ◌+◌, ◌-◌, ◌*◌, ◌≤◌, ◌<◌, List, [], ◌∷◌, ◌++◌, length, take, drop, refl, sym, ap, ◌∙◌, subst, arith, append-nil, append_assoc, length-append, inl, inr, replicate, encode_utf8, encode_utf8_all}
use Rattle.std.specs.List.{AllByRecursion}
use Rattle.std.specs.Prelude.{Some}
use Rattle.std.proofs.lemmas.List.{take-append-drop, take-append-le, length-drop, length-take-le, length-replicate, take_at}
use Rattle.std.proofs.Math.Seq.{take-add}
use Rattle.std.proofs.lemmas.Str.{encode_same, encode_ascii, encodes-append, cons_from_encodes, length-encode, len_utf8_bounds}
use Rattle.lexical_core.specs.Characters.{IsXmlChar, IsXmlText}
use Rattle.lexical_core.specs.XmlRuns.{IsXmlRun, IsPlainXmlByte}
use Rattle.lexical_core.proofs.XmlRuns.{plain_encoded}
use Rattle.lexical_core.proofs.CharacterLemmas.{chars_joined}
use Rattle.data_types.proofs.RunLemmas.{run_short}
use Rattle.facets.specs.LeafChecks.{IsHeldWithin}
use Rattle.der_codec.specs.KeptOctets.{IsPassed, IsTextKept}
use Rattle.der_codec.proofs.LeavesJudged.{run_text}

-- ---- characters behind others

behind : (ps cs rest : List ℕ) → encode_utf8_all cs ≡ encode_utf8_all ps ++ rest → (ds : List ℕ) × (cs ≡ ps ++ ds) × (encode_utf8_all ds ≡ rest)
behind [] cs rest e = (cs, refl, e)
behind (p ∷ ps) cs rest e =
    let first = cons_from_encodes cs (encode_utf8_all ps ++ rest) p (e ∙ append_assoc (encode_utf8 p) (encode_utf8_all ps) rest) in
    let more = behind ps first.0 rest first.2 in
    (more.0, first.1 ∙ ap (λ z. p ∷ z) more.1, more.2)

all_behind : (ps ds : List ℕ) → AllByRecursion IsXmlChar (ps ++ ds) → AllByRecursion IsXmlChar ds
all_behind [] ds h = h
all_behind (p ∷ ps) ds h = all_behind ps ds h.1

-- what stands behind a run of a text is a text
pub text_behind : (front rest : List ℕ) (count : ℕ) → IsXmlRun front count → IsXmlText (front ++ rest) → IsXmlText rest
text_behind front rest count r (cs, all, e) =
    let b = behind r.chars cs rest (e ∙ ap (λ z. z ++ rest) r.spelled) in
    (b.0, all_behind r.chars b.0 (subst (AllByRecursion IsXmlChar) b.1 all), b.2)

pub text_both : (front rest : List ℕ) (count : ℕ) → IsXmlRun front count → IsXmlText rest → IsXmlText (front ++ rest)
text_both front rest count r (ds, all, e) =
    (r.chars ++ ds, chars_joined r.chars ds r.are all, encodes-append r.chars ds ∙ (ap (λ z. encode_utf8_all r.chars ++ z) e ∙ ap (λ z. z ++ rest) (sym r.spelled)))

-- a text is as long as its front
run_longer : (front rest : List ℕ) (count all : ℕ) → IsXmlRun front count → IsXmlRun (front ++ rest) all → count ≤ all
run_longer front rest count all r w =
    let b = behind r.chars w.chars rest (sym w.spelled ∙ ap (λ z. z ++ rest) r.spelled) in
    let whole = ap length b.1 in let sum = length-append r.chars b.0 in let first = r.count_is in let last = w.count_is in
    omega (arith, whole, sum, first, last)

pub run_of : (octets : List ℕ) (t : IsXmlText octets) → IsXmlRun octets (length t.0)
run_of octets t = record { chars = t.0; spelled = sym t.2; count_is = refl; are = t.1 }

-- ---- a run that is too long, in the place of another

pub runs_pass : (most a b : ℕ) (short long rest : List ℕ) → IsXmlRun short a → IsXmlRun long b → most < a → most < b → IsPassed most (short ++ rest) (long ++ rest)
runs_pass most a b short long rest r w low high = record {
  there = λ more t. joined long more (text_both long (rest ++ more) b w (text_behind short (rest ++ more) a r (apart short more t)));
  back = λ more t. joined short more (text_both short (rest ++ more) a r (text_behind long (rest ++ more) b w (apart long more t)));
  kept_long = λ more count run.
      let l = run_longer short (rest ++ more) a count r (subst (λ z. IsXmlRun z count) (append_assoc short rest more) run) in omega (arith, l, low);
  octets_long = λ more count run.
      let l = run_longer long (rest ++ more) b count w (subst (λ z. IsXmlRun z count) (append_assoc long rest more) run) in omega (arith, l, high);
}
  where
    apart : (front more : List ℕ) → IsXmlText ((front ++ rest) ++ more) → IsXmlText (front ++ (rest ++ more))
    apart front more t = subst IsXmlText (append_assoc front rest more) t

    joined : (front more : List ℕ) → IsXmlText (front ++ (rest ++ more)) → IsXmlText ((front ++ rest) ++ more)
    joined front more t = subst IsXmlText (sym (append_assoc front rest more)) t

-- ---- octets of which no text comes

pub none_pass : (most : ℕ) (kept octets : List ℕ) → ((more : List ℕ) → IsXmlText (kept ++ more) → ⊥) → ((more : List ℕ) → IsXmlText (octets ++ more) → ⊥) → IsPassed most kept octets
none_pass most kept octets never none = record {
  there = λ more t. absurd (never more t);
  back = λ more t. absurd (none more t);
  kept_long = λ more count run. absurd (never more (run_text (kept ++ more) count run));
  octets_long = λ more count run. absurd (none more (run_text (octets ++ more) count run));
}

nul_is_none : IsXmlChar 0 → ⊥
nul_is_none (inl h) = (let low = h.0 in omega (arith, low))
nul_is_none (inr (inl h)) = (let low = h.0 in omega (arith, low))
nul_is_none (inr (inr (inl h))) = (let low = h.0 in omega (arith, low))
nul_is_none (inr (inr (inr (inl h)))) = (let low = h.0 in omega (arith, low))
nul_is_none (inr (inr (inr (inr (inl h))))) = (let low = h.0 in omega (arith, low))
nul_is_none (inr (inr (inr (inr (inr h))))) = h

pub no_nul : (more : List ℕ) → IsXmlText ((0 ∷ []) ++ more) → ⊥
no_nul more ([], all, e) = absurd cc
no_nul more (c ∷ cs, all, e) =
    let zero_is = encode_ascii 0 (omega arith) in
    let same = encode_same c 0 (encode_utf8_all cs) more (e ∙ sym (ap (λ z. z ++ more) zero_is)) in
    nul_is_none (subst IsXmlChar same.0 all.0)

-- four octets behind the longest run begin no character
pub none_comes : (octets : List ℕ) (bytes count : ℕ) → IsXmlRun (take bytes octets) count → ((n : ℕ) → n ≤ length octets → IsXmlText (take n octets) → n ≤ bytes) → 3 < length octets - bytes
    → (more : List ℕ) → IsXmlText (octets ++ more) → ⊥
none_comes octets bytes count run longest some more t =
    by (text_behind (take bytes octets) (drop bytes octets ++ more) count run (subst IsXmlText (ap (λ z. z ++ more) (sym (take-append-drop bytes octets)) ∙ append_assoc (take bytes octets) (drop bytes octets) more) t))
  where
    rest : List ℕ
    rest = drop bytes octets

    by : IsXmlText (drop bytes octets ++ more) → ⊥
    by ([], all, e) = (let none = ap length e in let sum = length-append (drop bytes octets) more in let size = length-drop bytes octets in absurd (omega (arith, none, sum, size, some)))
    by (c ∷ cs, all, e) =
        let k = length (encode_utf8 c) in
        let bounds = len_utf8_bounds c in let is = length-encode c in let size = length-drop bytes octets in
        let fits : k ≤ length (drop bytes octets) = omega (arith, bounds.0, bounds.1, is, size, some) in
        let front : take k (drop bytes octets) ≡ encode_utf8 c = sym (take-append-le k (drop bytes octets) more fits) ∙ (ap (take k) (sym e) ∙ take_at (encode_utf8 c) (encode_utf8_all cs) k refl) in
        let text : IsXmlText (take bytes octets ++ take k (drop bytes octets)) = text_both (take bytes octets) (take k (drop bytes octets)) count run (c ∷ [], (all.0, tt), append-nil (encode_utf8 c) ∙ sym front) in
        let no = longest (bytes + k) (omega (arith, fits, size, some)) (subst IsXmlText (sym (take-add bytes k octets)) text) in
        omega (arith, no, bounds.0, is)

-- ---- spaces

all_plain : (n : ℕ) → AllByRecursion IsPlainXmlByte (replicate n 32)
all_plain zero = tt
all_plain (suc n) = (record { ascii = omega arith; xml = inl (omega arith, omega arith) }, all_plain n)

pub spaces_run : (n : ℕ) → IsXmlRun (replicate n 32) n
spaces_run n =
    let plain = plain_encoded (replicate n 32) (all_plain n) in
    record { chars = replicate n 32; spelled = sym plain.0; count_is = length-replicate {A = ℕ} n 32; are = plain.1 }

-- ---- what is kept of a text

pub held_within : (m n k : ℕ) → k ≤ 4 * n + 64 → k ≤ 4 * m + 64 → IsHeldWithin (Some m) n k
held_within m n k few low = omega (arith, few, low)

pub none_kept : (most : ℕ) (kept octets : List ℕ) (bytes count : ℕ) → kept ≡ 0 ∷ [] → 4 * most + 64 < length octets → IsXmlRun (take bytes octets) count
    → ((n : ℕ) → n ≤ length octets → IsXmlText (take n octets) → n ≤ bytes) → 3 < length octets - bytes → IsTextKept most kept octets
none_kept most kept octets bytes count is long run longest some =
    let one = ap length is in record {
      few = omega (arith, one, long);
      within = held_within most (length octets) (length kept) (omega (arith, one)) (omega (arith, one));
      text = inr (none_pass most kept octets (λ more t. no_nul more (subst (λ z. IsXmlText (z ++ more)) is t)) (none_comes octets bytes count run longest some));
    }

pub spaces_kept : (most : ℕ) (kept octets : List ℕ) (bytes count : ℕ) → kept ≡ replicate (most + 1) 32 ++ drop bytes octets → 4 * most + 64 < length octets → bytes ≤ length octets → IsXmlRun (take bytes octets) count
    → length octets - bytes ≤ 3 → IsTextKept most kept octets
spaces_kept most kept octets bytes count is long within run short =
    let sum = length-append (replicate (most + 1) 32) (drop bytes octets) in let spaces = length-replicate {A = ℕ} (most + 1) 32 in let rest = length-drop bytes octets in let size = ap length is in
    let four = run_short (take bytes octets) count run in let front = length-take-le bytes octets within in
    record {
      few = omega (arith, sum, spaces, rest, size, long, short);
      within = held_within most (length octets) (length kept) (omega (arith, sum, spaces, rest, size, long, short)) (omega (arith, sum, spaces, rest, size, short));
      text = inr (subst (λ z. IsPassed most z octets) (sym is) (subst (λ z. IsPassed most (replicate (most + 1) 32 ++ drop bytes octets) z) (take-append-drop bytes octets)
          (runs_pass most (most + 1) count (replicate (most + 1) 32) (take bytes octets) (drop bytes octets) (spaces_run (most + 1)) run (omega arith) (omega (arith, four, front, long, short)))));
    }
