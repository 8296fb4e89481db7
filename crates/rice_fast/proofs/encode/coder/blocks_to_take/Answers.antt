use Rattle.rice_fast.proofs.Words.{ℕ, ◌+◌, ◌*◌, ◌/◌, ◌<◌, ◌≤◌, arith, inl, inr, div-add-mod, mul-le-mul_left, cases_lt}
use Rattle.rice_fast.proofs.encode.coder.blocks_to_take.Goals as goal

-- as many blocks as are left are there,
enough : (n len left : ℕ) → 0 < len → len * left ≤ n → left ≤ n / len
enough n len left some h = elim (cases_lt (n / len) left) [
  | inl lt ↦ absurd (let all : len * (n / len + 1) ≤ len * left = mul-le-mul_left len (omega (arith, lt)) in omega (arith, all, h, div-add-mod n len, rest))
  | inr le ↦ le
]
  where
    rest : n < len * (n / len) + len
    rest = omega (arith, some, div-add-mod n len)

-- or fewer
fewer : (n len left : ℕ) → 0 < len → n < len * left → n / len ≤ left
fewer n len left some h = elim (cases_lt left (n / len)) [
  | inl lt ↦ absurd (let all : len * left ≤ len * (n / len) = mul-le-mul_left len (omega (arith, lt)) in omega (arith, all, h, div-add-mod n len))
  | inr le ↦ le
]

pub returns-then-len-left : goal.returns-then-len-left
returns-then-len-left c = omega (arith, enough c.args.bytes c.args.len c.args.left c.requires.some c.if-len-left.true)

pub returns : goal.returns
returns c = omega (arith, fewer c.args.bytes c.args.len c.args.left c.requires.some c.if-len-left.false)
