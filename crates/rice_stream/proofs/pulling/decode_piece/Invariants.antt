use Rattle.std.proofs.Common.{◌≡◌, ◌-◌, ◌%◌, ◌<◌, ◌≤◌, Bool, List, ℤ, length}
use Rattle.rice_stream.specs.Pulling.{Origin, IsReadFrom, IsStand, ahead, state_of}
use Rattle.rice_stream.proofs.lemmas.PulledPieceSoFar.{PulledSoFar}
use Rattle.rice_stream.proofs.pulling.decode_piece.Given as goal

abbrev pub invariant-decode_all : goal.invariant-decode_all
invariant-decode_all g l = record {
  state : l.decoder ≡ state_of l.setting l.here;
  reads : IsReadFrom l.here l.reader;
  aligned : 0 < length l.piece → l.reader.taken % 8 ≡ l.here.bits % 8;
  within : l.at ≤ length l.samples;
  len : length l.samples ≡ length l.fn.samples;
  so_far : (o : Origin) (front : List Bool) (given : List ℤ) → IsStand l.setting o l.stand front given
      → PulledSoFar l.setting o front given l.piece l.stand l.fn.samples l.samples l.here (ahead l.reader) l.at;
}

abbrev pub decreases-decode_all : goal.decreases-decode_all
decreases-decode_all g l = length l.samples - l.at
