use Rattle.rice_stream.proofs.Words.{List, ℤ, length, drop, ◌-◌, ◌++◌, ◌≡◌, ◌≤◌, Reads, EncodingValue, Sees, Beginning, IsEncodingOf}
use Rattle.rice_stream.proofs.encoding.Encoding.push_bytes.Given as goal

abbrev pub invariant-loop-at : goal.invariant-loop-at
invariant-loop-at g l = record {
  within : l.at ≤ length l.bytes;
  part : (v : EncodingValue) (old : Beginning) (xs : List ℤ) → Sees g.C.TakesBytes.stands l.fn.self v → IsEncodingOf l.setting old (g.O.Outlet.taken l.fn.outlet) v xs
      → (v_new : EncodingValue) × Sees g.C.TakesBytes.stands l.self v_new × (more : List ℤ) × Reads l.setting l.bytes more (drop l.at l.bytes)
      × IsEncodingOf l.setting old (g.O.Outlet.taken l.outlet) v_new (xs ++ more);
  failures : g.O.Outlet.failed l.outlet ≡ g.O.Outlet.failed l.fn.outlet;
}

abbrev pub decreases-loop-at : goal.decreases-loop-at
decreases-loop-at g l = length l.bytes - l.at
