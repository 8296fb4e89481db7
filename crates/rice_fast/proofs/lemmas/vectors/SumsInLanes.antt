-- Running sums of at most sixteen lanes.
use Rattle.rice_fast.proofs.Words.{◌≡◌, inl, inr, ℕ, zero, suc, ◌+◌, ◌-◌, ◌%◌, ◌<◌, ◌≤◌, List, [], ◌∷◌, ◌++◌, get_or, length, take, replicate, refl, sym, ◌∙◌, ap, arith, zip2, cases_lt, ext_get_or}
use Rattle.rice_fast.proofs.Words.{get_or-replicate, get_or-take, get_or_append_left, get_or-append_right, length-replicate, length-take-le, get_or-zip2, length-zip2, mod-add-mod, add-mod-mod}
use Rattle.rice_fast.proofs.Words.{mod-mod, running_sums}
use Rattle.std.proofs.lemmas.List.{length-append}

-- the sum of the first i numbers
abbrev before : List ℕ → ℕ → ℕ
before xs zero = 0
before xs (suc i) = before xs i + get_or xs i 0

before-le : (xs : List ℕ) (i j : ℕ) → i ≤ j → before xs i ≤ before xs j
before-le xs i zero h = let e : i ≡ 0 = omega arith in rw e (omega arith)
before-le xs i (suc j) h = elim (cases_lt j i) [
  | inl lt ↦ (let e : i ≡ suc j = omega arith in rw e (omega arith))
  | inr le ↦ (
      let rest = before-le xs i j le in
      let more : before xs (suc j) ≡ before xs j + get_or xs j 0 = refl in
      omega (arith, rest, more))
]

-- in each lane the sum of the k numbers up to its own
record Windows (m n k : ℕ) (xs ys : List ℕ) : Type 0 where
  len : length ys ≡ n
  sums : (i : ℕ) → i < n → get_or ys i 0 % m ≡ (before xs (suc i) - before xs (suc i - k)) % m

abbrev add : ℕ → List ℕ → List ℕ → List ℕ
add m = zip2 (λ a b. (a + b) % m)

abbrev with_those_before : ℕ → ℕ → ℕ → List ℕ → List ℕ
with_those_before m n k ys = add m ys (take n (replicate k 0 ++ ys))

joined : (m a b s t w : ℕ) → a % m ≡ s % m → b % m ≡ t % m → s + t ≡ w → (a + b) % m % m ≡ w % m
joined m a b s t w h k e =
    mod-mod (a + b) m
    ∙ (sym (mod-add-mod a m b) ∙ (ap (λ z. (z + b) % m) h ∙ (mod-add-mod s m b
    ∙ (sym (add-mod-mod s b m) ∙ (ap (λ z. (s + z) % m) k ∙ (add-mod-mod s t m ∙ ap (λ z. z % m) e))))))

-- with the sums k places before them they are those of twice as many
doubled : (m n k : ℕ) (xs ys : List ℕ) → Windows m n k xs ys → Windows m n (k + k) xs (with_those_before m n k ys)
doubled m n k xs ys h = record {
  len = length-zip2 (λ a b. (a + b) % m) ys zs (h.len ∙ sym len) ∙ h.len;
  sums = λ i lt. ap (λ z. z % m) (get_or-zip2 (λ a b. (a + b) % m) ys zs i 0 0 0 (omega (arith, h.len)) (omega (arith, len))) ∙
      (ap (λ z. (get_or ys i 0 + z) % m % m) (get_or-take n moved i 0 lt) ∙ each i lt);
}
  where
    moved : List ℕ
    moved = replicate k 0 ++ ys

    zs : List ℕ
    zs = take n moved

    len : length zs ≡ n
    len = length-take-le n moved (omega (arith, h.len, length-append (replicate {A = ℕ} k 0) ys, length-replicate {A = ℕ} k 0))

    each : (i : ℕ) → i < n → (get_or ys i 0 + get_or moved i 0) % m % m ≡ (before xs (suc i) - before xs (suc i - (k + k))) % m
    each i lt = elim (cases_lt i k) [
      | inl first ↦ (
          let zero_there : get_or moved i 0 ≡ 0 = get_or_append_left (replicate k 0) ys 0 i (omega (arith, length-replicate {A = ℕ} k 0)) ∙ get_or-replicate k i 0 0 first in
          let e : suc i - (k + k) ≡ suc i - k = omega arith in
          joined m (get_or ys i 0) (get_or moved i 0) (before xs (suc i) - before xs (suc i - k)) 0 _ (h.sums i lt) (ap (λ z. z % m) zero_there) (rw e (omega arith)))
      | inr later ↦ (
          let there : get_or moved i 0 ≡ get_or ys (i - k) 0 = get_or-append_right (replicate k 0) ys k i 0 (length-replicate {A = ℕ} k 0) later in
          let same : suc (i - k) ≡ suc i - k = omega arith in
          let two : suc (i - k) - k ≡ suc i - (k + k) = omega arith in
          let a = before-le xs (suc i - k) (suc i) (omega arith) in
          let b = before-le xs (suc i - (k + k)) (suc i - k) (omega arith) in
          joined m (get_or ys i 0) (get_or moved i 0) (before xs (suc i) - before xs (suc i - k)) (before xs (suc i - k) - before xs (suc i - (k + k))) _ (h.sums i lt)
          (ap (λ z. z % m) there ∙ (h.sums (i - k) (omega arith) ∙ (λ j. (before xs (same j) - before xs (two j)) % m)))
          (omega (arith, a, b)))
    ]

shifted : (x : ℕ) (xs : List ℕ) (j : ℕ) → before (x ∷ xs) (suc j) ≡ x + before xs j
shifted x xs zero = omega arith
shifted x xs (suc j) =
    let rest = shifted x xs j in
    let left : before (x ∷ xs) (suc (suc j)) ≡ before (x ∷ xs) (suc j) + get_or xs j 0 = refl in
    let right : before xs (suc j) ≡ before xs j + get_or xs j 0 = refl in
    omega (arith, rest, left, right)

sum_at : (m p : ℕ) (xs : List ℕ) (i : ℕ) → i < length xs → get_or (running_sums m p xs) i 0 ≡ (p + before xs (suc i)) % m
sum_at m p [] i h = absurd (omega arith)
sum_at m p (x ∷ xs) zero h = ap (λ z. (p + z) % m) (let e : x ≡ 0 + x = omega arith in e)
sum_at m p (x ∷ xs) (suc i) h =
    let s = shifted x xs (suc i) in
    sum_at m ((p + x) % m) xs i (omega arith) ∙ (mod-add-mod (p + x) m (before xs (suc i)) ∙ ap (λ z. z % m) (omega (arith, s)))

length-running_sums : (m p : ℕ) (xs : List ℕ) → length (running_sums m p xs) ≡ length xs
length-running_sums m p [] = refl
length-running_sums m p (x ∷ xs) = ap (λ n. suc n) (length-running_sums m ((p + x) % m) xs)

-- with p, sums of as many as there are lanes are running sums
whole : (m p n k : ℕ) (xs ys : List ℕ) → n ≤ k → length xs ≡ n → Windows m n k xs ys → add m ys (replicate n p) ≡ running_sums m p xs
whole m p n k xs ys most len h = ext_get_or 0 (add m ys (replicate n p)) (running_sums m p xs) (long ∙ sym (length-running_sums m p xs ∙ len)) (λ i lt. each i (omega (arith, lt, long)))
  where
    long : length (add m ys (replicate n p)) ≡ n
    long = length-zip2 (λ a b. (a + b) % m) ys (replicate n p) (h.len ∙ sym (length-replicate n p)) ∙ h.len

    each : (i : ℕ) → i < n → get_or (add m ys (replicate n p)) i 0 ≡ get_or (running_sums m p xs) i 0
    each i lt =
        let none : suc i - k ≡ 0 = omega arith in
        let up : get_or ys i 0 % m ≡ before xs (suc i) % m = h.sums i lt ∙ ap (λ z. z % m) (let e : before xs (suc i) - before xs (suc i - k) ≡ before xs (suc i) = rw none (omega arith) in e) in
        get_or-zip2 (λ a b. (a + b) % m) ys (replicate n p) i 0 0 0 (omega (arith, h.len)) (omega (arith, length-replicate n p))
        ∙ (ap (λ z. (get_or ys i 0 + z) % m) (get_or-replicate n i p 0 lt)
        ∙ (sym (mod-add-mod (get_or ys i 0) m p) ∙ (ap (λ z. (z + p) % m) up ∙ (mod-add-mod (before xs (suc i)) m p
        ∙ (ap (λ z. z % m) (let e : before xs (suc i) + p ≡ p + before xs (suc i) = omega arith in e) ∙ sym (sum_at m p xs i (omega (arith, len))))))))

alone : (m n : ℕ) (xs : List ℕ) → length xs ≡ n → Windows m n 1 xs xs
alone m n xs e = record { len = e; sums = λ i lt. ap (λ z. z % m) (one i) }
  where
    one : (i : ℕ) → get_or xs i 0 ≡ before xs (suc i) - before xs (suc i - 1)
    one i =
        let same : suc i - 1 ≡ i = omega arith in
        let more : before xs (suc i) ≡ before xs i + get_or xs i 0 = refl in
        rw same (omega (arith, more))

-- sums over one, then two, four and eight places, with p added in each lane, are the running sums from p on, of at most sixteen lanes
pub sums_are : (m p n : ℕ) (xs : List ℕ) → n ≤ 16 → length xs ≡ n →
    let two = with_those_before m n 1 xs in let four = with_those_before m n 2 two in let eight = with_those_before m n 4 four in
    add m (with_those_before m n 8 eight) (replicate n p) ≡ running_sums m p xs
sums_are m p n xs most len =
    let two = with_those_before m n 1 xs in
    let four = with_those_before m n 2 two in
    let eight = with_those_before m n 4 four in
    whole m p n 16 xs (with_those_before m n 8 eight) most len (doubled m n 8 xs eight (doubled m n 4 xs four (doubled m n 2 xs two (doubled m n 1 xs xs (alone m n xs len)))))
