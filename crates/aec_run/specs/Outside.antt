-- What a system tells of its files and streams, as far as the command reaches them.
use Rattle.std.specs.Prelude.{◌≡◌, ℕ, ◌+◌, Bool, true, false, not, ◌&&◌, ◌||◌, List, [], ◌++◌, codes, Option, Some, None, Result, Ok, Err, IsTrue, if◌then◌else◌}
use Rattle.std.specs.Option.{option_map_or}
use Rattle.std.specs.Str.{bytes_eq}
use Rattle.clap.specs.declared.error.kind.ErrorKind.{ErrorKind}
use Rattle.rice_bits.specs.OutletRoom.{Room}
use Rattle.rice_stream.specs.declared.outcome.Fault.{Fault}
use Rattle.aec_run.specs.declared.finding.Finding.{Finding}
use Rattle.aec_command.specs.declared.plan.PlanFault.{PlanFault}
use Rattle.aec_command.specs.declared.test_plan.TestFault.{TestFault}
use Rattle.aec_run.specs.declared.same_file.FileId.{FileId}
use Rattle.aec_run.specs.declared.message.Message.{Message}
use Rattle.aec_run.specs.declared.message.Message.TheVariants as message
use Rattle.aec_run.specs.declared.message.StartFault.{StartFault}
use Rattle.aec_run.specs.declared.message.StartFault.TheVariants as start
use Rattle.aec_run.specs.declared.system.CreateFault.{CreateFault}
use Rattle.aec_run.specs.declared.system.CreateFault.TheVariants as create
use Rattle.aec_run.specs.declared.system.OpenFault.{OpenFault}
use Rattle.rice_bits.specs.declared.device.WriteFault.{WriteFault}

-- where bytes are written: a file that is new has the permissions that are given, or fewer
pub data Place : Type 0 where
  StandardOutput : Place
  Named : List ℕ → Option ℕ → Place

-- the one destination that a command has: none yet, one that is being written, or one that holds these bytes
pub data Destination : Type 0 where
  Untouched : Destination
  Begun : Place → Destination
  Holds : Place → List ℕ → Destination

-- a message, with its name as text
pub data Said : Type 0 where
  CannotOpen : List ℕ → Said
  CannotCreate : List ℕ → Said
  LacksMemory : Said
  NotText : Said
  Refused : PlanFault → Said
  TestRefused : TestFault → Said
  Stopped : Fault → Said
  -- the fault of a code, and the block, the bit and the byte where reading it stopped
  Faulty : Fault → ℕ → ℕ → ℕ → Said

abbrev pub said_at_start : StartFault → Said
said_at_start (start.NoSource name) = CannotOpen name.now
said_at_start (start.NoDest name) = CannotCreate name.now
said_at_start start.NoMemory = LacksMemory

abbrev pub said_of : Message → Said
said_of (message.Start fault) = said_at_start fault
said_of message.NotUtf8 = NotText
said_of (message.Refused fault) = Refused fault
said_of (message.TestRefused fault) = TestRefused fault
said_of (message.Stopped fault) = Stopped fault
said_of (message.Faulty fault block bit byte) = Faulty fault block bit byte

-- The files and streams, and what the command has done with them.
pub record Outside : Type 0 where
  -- what standard input gives, and which file it is
  pub input : List ℕ
  pub input_id : Option FileId
  -- by its name, what a file gives, if it can be opened, and which file it is
  pub files : List ℕ → Option (List ℕ)
  pub ids : List ℕ → Option FileId
  -- a file of this name can be created
  pub creatable : List ℕ → Bool
  pub destination : Destination
  -- the message, and the kind of text of the parser, that was written, if one was
  pub said : Option Said
  pub shown : Option ErrorKind
  -- what was reported of a code on standard output
  pub found : Option Finding
  -- the closing line, if there was one: whether a code was read, and the samples that it counts
  pub closed : Option (Bool × ℕ)
  -- how often standard output did not take a line, or not all bytes arrived at a destination
  pub losses : ℕ
  -- how many requests for memory were refused
  pub refusals : ℕ
  -- the file that could not be opened once more, if there was one
  pub missed : Option (List ℕ)

-- the command has done nothing yet
pub record IsFresh (o : Outside) : Type 0 where
  pub destination : o.destination ≡ Untouched
  pub said : o.said ≡ None
  pub shown : o.shown ≡ None
  pub found : o.found ≡ None
  pub missed : o.missed ≡ None

-- what a source gives is reported, and it is these bytes
abbrev pub GivesAll : Option (List ℕ) → Option (List ℕ) → Type 0
GivesAll bytes left = (given : List ℕ) × (bytes ≡ Some given) × (left ≡ Some given)

-- an outlet has taken nothing, and tells so
abbrev pub HasTakenNothing : Option Room → Type 0
HasTakenNothing taken = (room : Room) × (taken ≡ Some room) × (room.bytes ≡ [])

abbrev pub begun : Outside → Place → Outside
begun o place = record o { destination = Begun place }

-- the bytes stand at the place that was begun
abbrev pub held : Destination → List ℕ → Destination
held Untouched bytes = Untouched
held (Begun place) bytes = Holds place bytes
held (Holds place _) bytes = Holds place bytes

abbrev pub holding : Outside → List ℕ → Outside
holding o bytes = record o { destination = held o.destination bytes }

abbrev pub saying : Outside → Said → Outside
saying o line = record o { said = Some line }

abbrev pub showing : Outside → ErrorKind → Outside
showing o kind = record o { shown = Some kind }

abbrev pub finding : Outside → Finding → Outside
finding o it = record o { found = Some it }

abbrev pub closing : Bool → Bool → ℕ → Outside → Outside
closing reported decoded samples o = record o { closed = if reported then Some (decoded, samples) else o.closed }

abbrev pub losing : Outside → Outside
losing o = record o { losses = o.losses + 1 }

abbrev pub refusing : Outside → Outside
refusing o = record o { refusals = o.refusals + 1 }

abbrev pub missing : List ℕ → Outside → Outside
missing name o = record o { missed = Some name }

-- the name of a standard stream
abbrev pub is_standard : List ℕ → Bool
is_standard name = bytes_eq name (codes "-")

-- what the source of this name gives, if it can be opened, and which file it is
abbrev pub source_bytes : Outside → List ℕ → Option (List ℕ)
source_bytes o name = if is_standard name then Some o.input else o.files name

abbrev pub source_id : Outside → List ℕ → Option FileId
source_id o name = if is_standard name then o.input_id else o.ids name

-- this name can be opened once more, to read the same bytes: it is that of a regular file
abbrev pub is_read_again : Outside → List ℕ → Bool
is_read_again o name = not (is_standard name) && option_map_or (λ id. id.is_regular) (source_id o name) false

-- the permissions that a new file gets for those of a source: of a regular file
abbrev pub new_mode : Option FileId → Option ℕ
new_mode None = None
new_mode (Some id) = if id.is_regular then Some id.mode else None

-- where what is written to this name goes, and whether it can be created
abbrev pub place_of : List ℕ → Option ℕ → Place
place_of name mode = if is_standard name then StandardOutput else Named name mode

abbrev pub is_creatable : Outside → List ℕ → Bool
is_creatable o name = is_standard name || o.creatable name

-- both are one regular file
abbrev pub IsOneFile : FileId → FileId → Type 0
IsOneFile a b = (a.device ≡ b.device) × (a.number ≡ b.number) × IsTrue a.is_regular × IsTrue b.is_regular

abbrev pub AreOneFile : Option FileId → Option FileId → Type 0
AreOneFile (Some a) (Some b) = IsOneFile a b
AreOneFile _ _ = ⊥

-- A file with these bytes, if it can be opened, and this identity was opened, or can't be.
abbrev pub Opens : {Source : Type 0} → (Source → Option (List ℕ)) → Option (List ℕ) → Option FileId → Result (Source × Option FileId) OpenFault → Type 0
Opens left bytes id (Ok opened) = GivesAll bytes (left opened.0) × (opened.1 ≡ id)
Opens left bytes id (Err _) = bytes ≡ None

-- The file of a name was opened once more, or it could not be.
abbrev pub Reopens : {Source : Type 0} → (Source → Option (List ℕ)) → List ℕ → Outside → Option Outside → Result Source OpenFault → Type 0
Reopens left name o new (Ok source) = (new ≡ Some o) × GivesAll (o.files name) (left source)
Reopens left name o new (Err _) = new ≡ Some (missing name o)

-- A destination was begun at this place, or there is no memory for it, or it can't be created.
abbrev pub Creates : {Dest : Type 0} → (Dest → Option Room) → Place → Bool → Outside → Option Outside → Result Dest CreateFault → Type 0
Creates taken place can o new (Ok dest) = (new ≡ Some (begun o place)) × (can ≡ true) × HasTakenNothing (taken dest)
Creates taken place can o new (Err create.NoMemory) = new ≡ Some (refusing o)
Creates taken place can o new (Err create.Refused) = (new ≡ Some o) × (can ≡ false)

-- What a test found was reported, or could not be.
abbrev pub Tells : Finding → Outside → Option Outside → Result (Unit {0}) WriteFault → Type 0
Tells it o new (Ok _) = new ≡ Some (finding o it)
Tells it o new (Err _) = new ≡ Some (losing o)

-- Of these bytes all stand at the destination, or a front, and the rest is lost.
abbrev pub Finishes : List ℕ → Outside → Option Outside → Result (Unit {0}) WriteFault → Type 0
Finishes bytes o new (Ok _) = new ≡ Some (holding o bytes)
Finishes bytes o new (Err _) = (there : List ℕ) × (lost : List ℕ) × (bytes ≡ there ++ lost) × (new ≡ Some (losing (holding o there)))

-- The destination of a place, with no name and permissions where it is standard output, and of the bytes that stand there once it is finished.
abbrev pub destination_of : Option (Option (List ℕ × Option ℕ)) → Option (List ℕ) → Destination
destination_of None bytes = Untouched
destination_of (Some None) None = Begun StandardOutput
destination_of (Some None) (Some bytes) = Holds StandardOutput bytes
destination_of (Some (Some named)) None = Begun (Named named.0 named.1)
destination_of (Some (Some named)) (Some bytes) = Holds (Named named.0 named.1) bytes
