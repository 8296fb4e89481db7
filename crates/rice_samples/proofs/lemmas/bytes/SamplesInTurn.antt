-- Samples that are read, and written, one after the other.
use Rattle.std.proofs.Common.{◌≡◌, ℕ, ◌+◌, ◌-◌, ◌*◌, ◌<◌, List, [], ◌∷◌, ◌++◌, length, take, drop, ap, arith, ◌∙◌, append-nil, length-drop, get_or, map, ℤ}
use Rattle.std.proofs.{lemmas.Grind.common_steps, lemmas.Grind.flat_map-append, lemmas.List.map_more, lemmas.List.length-take-le, lemmas.Slice.take-put_mid, Math.Nat.mul-le-mul_left}
use Rattle.std.specs.Prelude.{flat_map}
use borrow.Rule.Slice.PartMut.{put_mid}

-- the bytes of one
pub one_len : (w i n : ℕ) (bytes : List ℕ) → i < n → length bytes ≡ w * n → length (take (w * i + w - w * i) (drop (w * i) bytes)) ≡ w
one_len w i n bytes h e = grind (arith, common_steps, mul-le-mul_left, length-drop, length-take-le)

-- one element more adds what is made of it after what was made of those before it
pub flat_map-push : {X A : Type 0} (f : X → List A) (xs : List X) (x : X) → flat_map f (xs ++ x ∷ []) ≡ flat_map f xs ++ f x
flat_map-push f xs x = flat_map-append f xs (x ∷ []) ∙ ap (λ v. flat_map f xs ++ v) (append-nil (f x))

-- one more level, and the bytes of a sample where there are bytes for all levels
pub record RoomForOne (w i : ℕ) (bytes ys levels : List ℕ) : Type 0 where
  pub inside : i < length levels
  pub bytes_are : length bytes ≡ w * length levels
  pub one : length ys ≡ w

-- the bytes of one more value, by its level
pub one_written : (f : ℤ → List ℕ) (value : ℕ → ℤ) {w i : ℕ} (k : ℕ) (bytes : List ℕ) {ys : List ℕ} (levels : List ℕ) → RoomForOne w i bytes ys levels
    → take (w * i) bytes ≡ flat_map f (map value (take i levels)) →
    ys ≡ f (value (get_or levels i 0)) → take (w * (i + 1)) (put_mid (w * i) k bytes ys) ≡ flat_map f (map value (take (i + 1) levels))
one_written f value {w} {i} k bytes {ys} levels room e g = grind (arith, common_steps, mul-le-mul_left, take-put_mid, map_more, flat_map-push, get_or)
