use Rattle.std.proofs.Common.{◌≡◌, ℕ, ◌+◌, ◌≤◌, List, ◌++◌, length, drop, take, refl, ap, arith, ◌∙◌}
use Rattle.std.proofs.lemmas.{Simd.put_chunk_is, List.drop-drop}
use lib.Lanes.{put_chunk}
use Rattle.rice_bits.proofs.bits.eight_bytes.store_least_byte_first.Goals as goal

written : (at : ℕ) (xs ys : List ℕ) → length ys ≡ 8 → at + 8 ≤ length xs → put_chunk at xs ys ≡ take at xs ++ (ys ++ drop (at + 8) xs)
written at xs ys eight room =
    put_chunk_is at xs ys (omega arith) ∙ ap (λ rest. take at xs ++ (ys ++ rest)) (ap (λ n. drop n (drop at xs)) eight ∙ drop-drop 8 at xs)

pub returns : goal.returns
returns c = ap (put_chunk c.args.at c.args.bytes.now) c.least_byte_first.ensures ∙ written c.args.at c.args.bytes.now _ refl c.requires
