-- What outlets have taken: nothing, one thing after another, and nothing more.
use Rattle.std.proofs.Common.{◌≡◌, ℕ, ◌+◌, List, [], ◌++◌, length, drop, take, Option, Some, None, refl, sym, ap, subst, arith, ◌≤◌}
use Rattle.std.proofs.lemmas.{List.append-nil, List.append_assoc, List.length-append, List.drop-drop, List.length-take-le, Slice.take-put_mid, Slice.drop-put_mid, Grind.common_steps}
use Rattle.std.proofs.Math.Seq.{drop-nil}
use Rattle.rice_bits.specs.OutletRoom.{Room, known, Fills, Appends, Keeps}
use borrow.Rule.Slice.PartMut.{put_mid}
use Rattle.std.specs.Io.KnownBytes as bytes

-- an outlet that stays as it is has taken no bytes
pub Appends-nil : (a : Option Room) → Appends a a []
Appends-nil None = tt
Appends-nil (Some x) = record { borrow = refl; bytes = sym (append-nil x.bytes); rest = refl }

-- what is taken in one step, and then what is taken in the next, is taken in both together
pub Appends-trans : (a b c : Option Room) (bs cs : List ℕ) → Appends a b bs → Appends b c cs → Appends a c (bs ++ cs)
Appends-trans None b c bs cs p q = tt
Appends-trans (Some x) None c bs cs p q = absurd p
Appends-trans (Some x) (Some y) None bs cs p q = absurd q
Appends-trans (Some x) (Some y) (Some z) bs cs p q = grind (arith, common_steps, append_assoc, drop-drop, length-append)

-- what was taken is taken still where the outlet then takes nothing
pub Appends-kept : (a b c : Option Room) (bs : List ℕ) → Appends a b bs → Keeps b c → Appends a c bs
Appends-kept None b c bs p q = tt
Appends-kept (Some x) None c bs p q = absurd p
Appends-kept (Some x) (Some y) None bs p q = absurd q
Appends-kept (Some x) (Some y) (Some z) bs p q = subst (λ r. Fills x r bs) (sym q) p

-- what a writer that tells its bytes appends, the outlet over it has taken
pub known_appends : (a b : Option (List ℕ)) (bs : List ℕ) → bytes.Appends a b bs → Appends (known a) (known b) bs
known_appends None b bs p = tt
known_appends (Some x) None bs p = absurd p
known_appends (Some x) (Some y) bs p = record { borrow = refl; bytes = p; rest = sym (drop-nil (length bs)) }

-- where the bytes of such a writer stay the same, the outlet over it has taken nothing
pub known_keeps : (a b : Option (List ℕ)) → bytes.Keeps a b → Keeps (known a) (known b)
known_keeps None b p = tt
known_keeps (Some x) None p = absurd p
known_keeps (Some x) (Some y) p = ap (λ l. record { borrow = 0; bytes = l; rest = [] }) p

-- The front of some bytes, put over as many bytes of a memory at a place, is taken by an outlet that stands there.
pub put_fills : (borrow at m : ℕ) {k : ℕ} (memory : List ℕ) {new : List ℕ} (bytes : List ℕ) → at ≤ length memory → new ≡ take m bytes → m ≤ length bytes → k ≡ m →
    Fills (record { borrow = borrow; bytes = take at memory; rest = drop at memory })
    (record { borrow = borrow; bytes = take (at + m) (put_mid at k memory new); rest = drop (at + m) (put_mid at k memory new) }) (take m bytes)
put_fills borrow at m {k} memory {new} bytes fits is few same = grind (arith, common_steps, length-take-le, take-put_mid, drop-put_mid, drop-drop)
