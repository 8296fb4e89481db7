-- Buffered bits that stand among bytes.
use Rattle.rice_fast.proofs.Words.{◌≡◌, ℕ, ◌+◌, ◌≤◌, Bool, List, length, take, drop, sym, ◌∙◌, ap, arith, take-take, length-drop, bits_of, AreBitsFrom}

-- the first of them
pub first-from : {buffer : List ℕ} {at : ℕ} {bits : List Bool} (n : ℕ) → AreBitsFrom buffer at bits → n ≤ length bits → take n (drop at (bits_of buffer)) ≡ take n bits
first-from {buffer} {at} {bits} n h few = sym (take-take n (length bits) (drop at (bits_of buffer)) few) ∙ ap (take n) h.begin

-- bits that are buffered after others are as many as all, less the others
pub there_after : (skip n : ℕ) (buffered : List Bool) → skip + n ≤ length buffered → n ≤ length (drop skip buffered)
there_after skip n buffered there = omega (arith, there, length-drop skip buffered)
