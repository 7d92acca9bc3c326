-- Which characters the atom of a token has: the state of a machine, which the contracts of private functions alone cite.
use Rattle.std.specs.Prelude.{ℕ, Bool, true, false, ◌&&◌, ◌||◌, not, ◌==◌, nat_le, List, [], ◌∷◌, drop}
use Rattle.pattern_match.specs.declared.token.Token.{Token}
use Rattle.pattern_match.specs.declared.token.Token.TheVariants.{Single, Dot, Spaces, ClassStart, Member}

-- whether the members that stand first have the character
abbrev pub members_have : List Token → ℕ → Bool
members_have [] c = false
members_have (Member low high ∷ tokens) c = (nat_le low c && nat_le c high) || members_have tokens c
members_have (token ∷ tokens) c = false

-- `\s`
abbrev pub is_pattern_space : ℕ → Bool
is_pattern_space c = (c == 32) || (c == 9) || (c == 10) || (c == 13)

-- whether the atom whose token stands first has the character
abbrev pub first_admits : List Token → ℕ → Bool
first_admits [] c = false
first_admits (Single x ∷ tokens) c = c == x
first_admits (Dot ∷ tokens) c = not ((c == 10) || (c == 13))
first_admits (Spaces ∷ tokens) c = is_pattern_space c
first_admits (ClassStart true ∷ tokens) c = not (members_have tokens c)
first_admits (ClassStart false ∷ tokens) c = members_have tokens c
first_admits (token ∷ tokens) c = false

-- whether the atom at the token of this number has the character
abbrev pub admits : List Token → ℕ → ℕ → Bool
admits tokens at c = first_admits (drop at tokens) c
