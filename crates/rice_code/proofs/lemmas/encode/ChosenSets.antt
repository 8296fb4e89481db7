-- What is put for the option that is chosen.
use Rattle.std.proofs.Common.{◌≡◌, ℕ, ◌-◌, ◌*◌, ◌≤◌, ◌++◌, ◌∙◌, Bool, not, nat_eq, if◌then◌else◌, List, length, Option, ap, arith}
use Rattle.rice_code.proofs.Words.{Parameters, CodedDataSet, bits_of_set, cost, PutsSet, common_steps}

-- what a flag chooses, where it is set, and where it is not
pub where_set : (flag : ℕ) (a b : Option ℕ) → (flag ≡ 0 → ⊥) → a ≡ (if not (nat_eq flag 0) then a else b)
where_set flag a b h = grind arith

-- the second of both, where the flag is not set
pub where_unset : (flag : ℕ) (a b : Option ℕ) → flag ≡ 0 → b ≡ (if not (nat_eq flag 0) then a else b)
where_unset flag a b h = grind arith

-- a set that is put is the one that is chosen, and its looks are within those of each option
pub puts_chosen : {s : Parameters} {set chosen : CodedDataSet} {least most : ℕ} {old new last : List Bool} {m0 m1 m2 : ℕ} → set ≡ chosen → last ≡ new → m2 ≡ m1
    → s.block - 1 ≤ least → most ≤ 2 * s.block → PutsSet s set least most old new m0 m1 → PutsSet s chosen (s.block - 1) (2 * s.block) old last m0 m2
puts_chosen {s} {old} e f g low high put = grind (arith, common_steps)
