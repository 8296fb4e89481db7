-- What passes between an engine and its devices in one call, and what the engine says of it.
use Rattle.std.specs.Io.KnownBytes.{Consumes}
use Rattle.std.specs.Prelude.{◌≡◌, ◌≢◌, ℕ, ◌+◌, ◌≤◌, List, [], ◌∷◌, ◌++◌, length, Option, Some, ⊤}
use Rattle.rice_bits.specs.OutletRoom.{Room, Appends}
use Rattle.rice_stream.specs.{declared.outcome.Report.Report, declared.outcome.Fault.Fault}
use Rattle.rice_stream.specs.declared.outcome.Fault.TheVariants.{Read, Write, TooLong}

-- One call: the bytes that the intake gave, those that it has left, and the bytes that the outlet took.
pub record Call : Type 0 where
  pub given : List ℕ
  pub left : Option (List ℕ)
  pub written : List ℕ

-- The call was so. A device that tells its bytes says which they were.
pub record Happens (intake_old intake_new : Option (List ℕ)) (outlet_old outlet_new : Option Room) (c : Call) : Type 0 where
  pub gave : Consumes intake_old intake_new c.given
  pub left : intake_new ≡ c.left
  pub took : Appends outlet_old outlet_new c.written

-- A fault of a device is one failure more of that device, and there is no other failure.
abbrev pub Fails : Option Fault → ℕ → ℕ → ℕ → ℕ → Type 0
Fails (Some Read) reads reads_new writes writes_new = (reads_new ≡ reads + 1) × (writes_new ≡ writes)
Fails (Some Write) reads reads_new writes writes_new = (reads_new ≡ reads) × (writes_new ≡ writes + 1)
Fails _ reads reads_new writes writes_new = (reads_new ≡ reads) × (writes_new ≡ writes)

-- These bytes are written, and so many samples and bits are reported.
pub record WritesAndReports (c : Call) (r : Report) (bytes : List ℕ) (count used : ℕ) : Type 0 where
  pub written : c.written ≡ bytes
  pub samples : r.samples ≡ count
  pub bits : r.bits ≡ used

-- The text goes on from `from`, and stops before the end of `to`.
pub record StopsBetween (from to text : List ℕ) : Type 0 where
  pub more : List ℕ
  pub missing : List ℕ
  pub begins : text ≡ from ++ more
  pub stops : to ≡ text ++ missing
  pub short : missing ≢ []

-- One byte more than the limit was given, after these.
pub record PassesLimit (limit : ℕ) (given front : List ℕ) : Type 0 where
  pub last : ℕ
  pub split : given ≡ front ++ last ∷ []
  pub full : length front ≡ limit

-- only the fault that says so comes after more bytes than the limit
abbrev pub IsWithinLimit : ℕ → Option Fault → List ℕ → Type 0
IsWithinLimit limit (Some TooLong) given = ⊤
IsWithinLimit limit _ given = length given ≤ limit

-- a part of the bytes was taken, and not all of them
pub record TakesPart (old new : Option Room) (bytes : List ℕ) : Type 0 where
  pub front : List ℕ
  pub missing : List ℕ
  pub split : bytes ≡ front ++ missing
  pub short : missing ≢ []
  pub took : Appends old new front
