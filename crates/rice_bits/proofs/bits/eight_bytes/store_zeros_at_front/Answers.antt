use Rattle.std.proofs.{lemmas.Simd.put_chunk_is, Common.arith}
use Rattle.rice_bits.proofs.bits.eight_bytes.store_zeros_at_front.Goals as goal

pub returns-then-bytes-ge64 : goal.returns-then-bytes-ge64
returns-then-bytes-ge64 c = (64, omega (arith, c.if-count-le64.true), c.if-bytes-ge64.true, put_chunk_is 0 c.args.bytes.now _ (omega arith))
