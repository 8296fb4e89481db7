-- What follows of what a system tells.
use Rattle.std.proofs.Common.{◌≡◌, ◌∙◌, ℕ, Bool, true, false, List, [], ◌++◌, Option, Some, None, Result, Ok, Err, refl, ap, subst, sym}
use Rattle.std.specs.Prelude.{is_ok}
use Rattle.rice_bits.specs.declared.device.WriteFault.{WriteFault}
use Rattle.rice_bits.specs.OutletRoom.{Room, Appends}
use Rattle.rice_stream.specs.DevicesInCalls.{Call, Happens, Fails}
use Rattle.rice_stream.specs.Encodes.{EncodesBetween}
use Rattle.rice_stream.specs.Decodes.{DecodesBetween}
use Rattle.rice_stream.specs.declared.outcome.Fault.{Fault}
use Rattle.rice_stream.specs.declared.outcome.Outcome.{Outcome}
use Rattle.aec_command.specs.Plan.{PlanView}
use Rattle.aec_run.specs.Outside.{Outside, Place, HasTakenNothing, Finishes, begun, held, new_mode, source_bytes, source_id, place_of, is_creatable}
use Rattle.aec_run.specs.Performs.{EngineOf, Arrives, EmptiesSource, Runs, last_words, losses_with, status_with}

-- What holds of what a system tells after a call, where it reported something before, holds of all that it tells.
pub holds_after : (P : Outside → Type 0) (old new : Option Outside) → (old ≡ None → new ≡ None)
    → ((o : Outside) → old ≡ Some o → (x : Outside) × (new ≡ Some x) × P x) → (o : Outside) → new ≡ Some o → P o
holds_after P None new silent tells o e = let n : new ≡ None = silent refl in let bad : ⊥ = cc in absurd bad
holds_after P (Some a) new silent tells o e =
    let found = tells a refl in
    let same : Some found.0 ≡ Some o = sym found.1 ∙ e in
    let it : found.0 ≡ o = cc in
    subst P it found.2

-- what was begun with some permissions was begun with others that are equal
pub begun_with : (new : Option Outside) (o : Outside) (name : List ℕ) (mode other : Option ℕ) → new ≡ Some (begun o (place_of name mode)) → mode ≡ other
    → new ≡ Some (begun o (place_of name other))
begun_with new o name mode other reported e = reported ∙ ap (λ m. Some (begun o (place_of name m))) e

-- an outlet that had taken nothing has taken what it took
pub took_all : (old new : Option Room) → HasTakenNothing old → (bytes : List ℕ) → Appends old new bytes → (x : Room) × (new ≡ Some x) × (x.bytes ≡ bytes)
took_all None new (room, e, empty) bytes h = let bad : ⊥ = cc in absurd bad
took_all (Some a) None nothing bytes h = absurd h
took_all (Some a) (Some b) (room, e, empty) bytes h =
    let same : a ≡ room = cc in
    let none : a.bytes ≡ [] = ap (λ r. r.bytes) same ∙ empty in
    (b, refl, h.bytes ∙ ap (λ xs. xs ++ bytes) none)

-- the engine that the plan asks for
pub engine_of : (p : PlanView) {decode : Bool} {left left' : Option (List ℕ)} {taken taken' : Option Room} (done : Outcome)
    → (decode ≡ false → EncodesBetween p.setting left left' taken taken' done.report done.fault)
    → (decode ≡ true → DecodesBetween p.setting p.samples left left' taken taken' done.report done.fault)
    → (c : Call) × Happens left left' taken taken' c × EngineOf decode p c done
engine_of p {decode = true} done encodes decodes = decodes refl
engine_of p {decode = false} done encodes decodes = encodes refl

-- these bytes have arrived, all that were written or a front
abbrev pub arrived : Bool → Outside → List ℕ → Outside
arrived all o there = record o { destination = held o.destination there; losses = losses_with all o.losses }

-- once writing is finished, all that was written has arrived, or a front of it
finished_bytes_arrive : (bytes written : List ℕ) (o : Outside) (new : Option Outside) (kept : Result (Unit {0}) WriteFault) → bytes ≡ written
    → Finishes bytes o new kept → (there : List ℕ) × Arrives (is_ok kept) written there × (new ≡ Some (arrived (is_ok kept) o there))
finished_bytes_arrive bytes written o new (Ok _) e h = (bytes, e, h)
finished_bytes_arrive bytes written o new (Err _) e h = (h.0, (h.1, sym e ∙ h.2), h.3)

-- what has arrived of what an outlet took
pub arrives_of : {old new : Option Room} → HasTakenNothing old → (bytes : List ℕ) → Appends old new bytes
    → (o : Outside) {reported : Option Outside} (kept : Result (Unit {0}) WriteFault) → ((room : Room) → new ≡ Some room → Finishes room.bytes o reported kept)
    → (there : List ℕ) × Arrives (is_ok kept) bytes there × (reported ≡ Some (arrived (is_ok kept) o there))
arrives_of {old} {new} nothing bytes took o {reported} kept finishes =
    let all = took_all old new nothing bytes took in
    finished_bytes_arrive all.0.bytes bytes o reported kept all.2 (finishes all.0 all.1)

-- what the engine that the plan asks for did between these devices, and the failures that they counted before and after
pub record EngineRan (p : PlanView) (left left' : Option (List ℕ)) (taken taken' : Option Room) (reads reads' writes writes' : ℕ) (done : Outcome) : Type 0 where
  pub did : (c : Call) × Happens left left' taken taken' c × EngineOf p.decode p c done
  pub failures : Fails done.fault reads reads' writes writes'

-- the source of this name is open, and nothing was read
pub record IsOpened {Source : Type 0} (left : Source → Option (List ℕ)) (reads : Source → ℕ) (name : List ℕ) (o : Outside) (given : List ℕ) (opened : Source) : Type 0 where
  pub source : source_bytes o name ≡ Some given
  pub sound : reads opened ≡ 0
  pub gives : left opened ≡ Some given

-- the destination of the plan's name is begun, and nothing was written
pub record IsBegun {Dest : Type 0} (taken : Dest → Option Room) (writes : Dest → ℕ) (p : PlanView) (o : Outside) (begins : Dest) : Type 0 where
  pub keeps_source : EmptiesSource o p → ⊥
  pub creatable : is_creatable o p.dest ≡ true
  pub unwritten : writes begins ≡ 0
  pub empty : HasTakenNothing (taken begins)

-- what an outlet took, or a front of it, has arrived at this place, and then the last words came
pub record IsFinished (outlet : Option Room) (place : Place) (fault : Option Fault) (kept : Result (Unit {0}) WriteFault) (o : Outside) (reported new : Option Outside) (status : ℕ) : Type 0 where
  pub finishes : (room : Room) → outlet ≡ Some room → Finishes room.bytes (begun o place) reported kept
  pub says : (x : Outside) → reported ≡ Some x → new ≡ Some (record x { said = last_words fault (is_ok kept) })
  pub status_is : status ≡ status_with (last_words fault (is_ok kept))

-- The source was read, what the engine wrote has arrived, and then the last words came.
pub runs_of : {Source Dest : Type 0} {left : Source → Option (List ℕ)} {reads : Source → ℕ} {taken : Dest → Option Room} {writes : Dest → ℕ}
    {p : PlanView} {o : Outside} {status samples : ℕ} {given : List ℕ} {opened read : Source} {begins written : Dest} {done : Outcome}
    {kept : Result (Unit {0}) WriteFault} {reported new : Option Outside}
    → IsOpened left reads p.source o given opened → IsBegun taken writes p o begins
    → EngineRan p (left opened) (left read) (taken begins) (taken written) (reads opened) (reads read) (writes begins) (writes written) done
    → IsFinished (taken written) (place_of p.dest (new_mode (source_id o p.source))) done.fault kept o reported new status → samples ≡ done.report.samples
    → (after : Outside) × (new ≡ Some after) × Runs left reads taken writes p o after status samples
runs_of {p} {o} {given} {opened} {read} {begins} {written} {done} {kept} source destination ran finished samples_are =
    let place = place_of p.dest (new_mode (source_id o p.source)) in
    let got = arrives_of destination.empty ran.did.0.written ran.did.1.took (begun o place) kept finished.finishes in
    let there = arrived (is_ok kept) (begun o place) got.0 in (
      record there { said = last_words done.fault (is_ok kept) },
      finished.says there got.2,
      record {
        given = given;
        source = source.source;
        keeps_source = destination.keeps_source;
        creatable = destination.creatable;
        opened = opened;
        read = read;
        begun = begins;
        written = written;
        sound = source.sound;
        unwritten = destination.unwritten;
        gives = source.gives;
        empty = destination.empty;
        call = ran.did.0;
        outcome = done;
        happens = ran.did.1;
        engine = ran.did.2;
        failures = ran.failures;
        all = is_ok kept;
        there = got.0;
        arrives = got.1;
        outside = refl;
        status_is = finished.status_is;
        samples_are = samples_are;
      },
    )
