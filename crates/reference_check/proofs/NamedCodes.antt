-- The first code of each name, from the last code of a set to its first.
use Rattle.std.proofs.Common.{◌≡◌, ℕ, Bool, true, false, List, ◌∷◌, Some, Bor, refl, ap, ◌∙◌}
use Rattle.std.specs.Bool.{if◌then◌else◌}
use Rattle.std.specs.HashMap.{HashMap}
use Rattle.std.specs.Map.{lookup}
use Rattle.std.specs.Option.{option_copied}
use Rattle.std.specs.Str.{bytes_eq}
use Rattle.repo_objects.specs.declared.objects.CodeDef.{CodeDef}
use Rattle.reference_check.specs.CodeTexts.{find_code}
use Rattle.reference_check.specs.NamedCodes.{FindsCodes}

-- one more code in front
pub finds_one_more : {S : Type 0} (m n : HashMap (Bor (List ℕ)) (Bor CodeDef) S) (key : Bor (List ℕ)) (code : Bor CodeDef) (cs : List CodeDef) → key.now ≡ code.now.name
    → ((q : Bor (List ℕ)) → lookup (λ k. bytes_eq q.now k.now) n.entries ≡ (if bytes_eq key.now q.now then Some code else lookup (λ k. bytes_eq q.now k.now) m.entries))
    → FindsCodes m cs → FindsCodes n (code.now ∷ cs)
finds_one_more m n key code cs named step before name =
    ap option_copied (step (record key { now = name })) ∙ by (bytes_eq key.now name) ∙ ap (λ v. if bytes_eq v name then Some code.now else find_code name cs) named
  where
    by : (b : Bool) → option_copied (if b then Some code else lookup (λ k. bytes_eq name k.now) m.entries) ≡ (if b then Some code.now else find_code name cs)
    by true = refl
    by false = before name
