-- Small files of codes, to see that the definitions say what is meant.
use Rattle.std.proofs.Common.{◌≡◌, ℕ, List, [], ◌∷◌, codes, refl}
use Rattle.csv.proofs.OnLiterals.{csv_on_literals}
use Rattle.csv.specs.Reading.{records, default_config, strip_bom}
use Rattle.code_sets.specs.declared.record.CodeRecord.{CodeRecord}
use Rattle.code_sets.specs.Codes.{numbered_records, codes_for, once}

abbrev c : ℕ → List ℕ → List ℕ → CodeRecord
c n set code = record { number = n; set = set; code = code }

-- numbers go over all records
two_records : numbered_records 1 ((codes "Own" ∷ (codes "A" ∷ [])) ∷ ((codes "Sub" ∷ (codes "B" ∷ [])) ∷ [])) ≡ c 1 (codes "Own") (codes "A") ∷ (c 2 (codes "Sub") (codes "B") ∷ [])
two_records = refl

-- a repeated record counts once
each_once : once [] (codes_for (codes "Own") (c 1 (codes "Own") (codes "B") ∷ (c 2 (codes "Own") (codes "A") ∷ (c 3 (codes "Other") (codes "C") ∷ (c 4 (codes "Own") (codes "B") ∷ []))))) ≡ codes "B" ∷ (codes "A" ∷ [])
each_once = refl

-- empty lines are no records, a closing quote is followed by the rest as it stands, one mark is dropped
abbrev fields : List ℕ → List ℕ → List (List ℕ)
fields a b = a ∷ (b ∷ [])

lines : records default_config (codes "Own,\"A\"x\n\nOwn,A\"B") ≡ fields (codes "Own") (codes "Ax") ∷ (fields (codes "Own") (codes "A\"B") ∷ [])
unfolding csv_on_literals
lines = refl

marks : strip_bom (0xEF ∷ 0xBB ∷ 0xBF ∷ 0xEF ∷ 0xBB ∷ 0xBF ∷ []) ≡ 0xEF ∷ 0xBB ∷ 0xBF ∷ []
unfolding csv_on_literals
marks = refl
