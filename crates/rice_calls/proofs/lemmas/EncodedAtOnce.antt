-- A code that is begun and finished by one piece is that of a call that encodes all at once.
use Rattle.rice_calls.proofs.Words.{◌≡◌, ℕ, ◌+◌, ◌-◌, ◌*◌, ◌<◌, ◌≤◌, List, [], ◌∷◌, ◌++◌, length, take, drop, Option, Some, None, refl, sym, ◌∙◌, ap, subst, arith, inl, inr, append-nil, append_assoc}
use Rattle.rice_calls.proofs.Words.{length-append, take-append-drop, take-take, ℤ, take-append_seam, length-take-le, Room, begun, most_input, Parameters, IsLegal, width, AtEnd, Spells, spellings}
use Rattle.rice_calls.proofs.Words.{NoSpelling, length-spellings, narrow_width, early_output, Call, StopsBetween, Encodes, ReportsTaken, Follows, FollowsBetween, after, AreAll, EncodesRest, MeetsEnd}
use Rattle.rice_calls.proofs.Words.{nothing_early, Fault, Read, Write, TooLong, SampleOutOfRange, SampleCut, CodeEnds, RunPastSegment, ResidualTooLarge, Report, RiceReport, EncodesInto, ReportsCall}
use Rattle.rice_calls.proofs.Words.{TakesInput, WritesFront, FinishesInto, report_of}

-- a call that encodes these bytes, and writes those
record EncodedBy (s : Parameters) (input bytes : List ℕ) (r : Report) (fault : Option Fault) : Type 0 where
  pub call : Call
  pub takes : TakesInput input call
  pub encodes : Encodes s call r fault
  pub written : call.written ≡ bytes

module _ (s : Parameters) (legal : IsLegal s) (input : List ℕ) (few : length input ≤ most_input) (name : ℕ) (old : List ℕ) (room : Room) (r : Report) where
  -- what follows the code of no samples is all
  all_written : {bytes : List ℕ} → Follows (after s [] (Some (begun name old))) (Some room) bytes → room.bytes ≡ bytes
  all_written f = f.took.bytes ∙ sym (f.split ∙ ap (λ l. l ++ f.more) (nothing_early s legal))

  -- and so is what stops before its end
  stops_so : {from to : List ℕ} → FollowsBetween (after s [] (Some (begun name old))) (Some room) from to → StopsBetween from to room.bytes
  stops_so {from} {to} f = subst (λ l. StopsBetween from to l) (sym (all_written f.took)) f.stops

  -- a call that is given all of the bytes
  abbrev of_all : Call
  of_all = record { given = input; left = Some []; written = room.bytes }

  all_given : TakesInput input of_all
  all_given = record { left = []; gave = sym (append-nil input); left_is = refl }

  -- which spell these samples and no others
  spells_all : (more : List ℤ) → AreAll s [] input (Some (begun name old)) (Some room) more → Spells s input more AtEnd
  spells_all more all = record { rest = []; whole = all.spelled ∙ sym (append-nil (spellings s more)); legal = all.legal; stops = refl }

  -- so many samples have so many bytes
  bytes_of_samples : (xs : List ℤ) (bytes : List ℕ) → bytes ≡ spellings s xs → r.samples ≡ length xs → length bytes ≡ r.samples * width s
  bytes_of_samples xs bytes is count = omega (arith, ap length is, length-spellings s xs, ap (λ n. width s * n) count)

  -- a sample that is refused is the last that is given
  refused : (more : List ℤ) (index : ℕ) → MeetsEnd s [] input (Some (begun name old)) (Some room) NoSpelling more index → ReportsTaken s r more
      → EncodedBy s input room.bytes r (Some (SampleOutOfRange index))
  refused more index meets rep =
      let w = width s in
      let front = spellings s more in
      let one = take w meets.rest in
      let size = length-take-le w meets.rest meets.ends.0 in
      let split : input ≡ (front ++ one) ++ drop w meets.rest = meets.reads.split ∙ ap (λ l. front ++ l) (sym (take-append-drop w meets.rest)) ∙ sym (append_assoc front one (drop w meets.rest)) in
      let long = length-append front one in
      let samples = bytes_of_samples more front refl rep.samples in
      record {
        call = record { given = front ++ one; left = Some (drop w meets.rest); written = room.bytes };
        takes = record { left = drop w meets.rest; gave = split; left_is = refl };
        encodes = record {
          samples = more;
          ends = (
            record { rest = one; whole = refl; legal = meets.reads.legal; stops = (omega (arith, size), λ x is e. meets.ends.1 x is (sym (take-take w w meets.rest (omega arith)) ∙ e)) },
            meets.index_is,
            record { written = all_written meets.writes; reports = rep },
          );
          limit = omega (arith, few, ap length split, length-append (front ++ one) (drop w meets.rest));
          ahead = omega (arith, long, size, samples, narrow_width s);
        };
        written = refl;
      }

  -- What one piece does that begins a code and ends it, with a fault or none, a call does that encodes all at once.
  by_one_piece : (fault : Option Fault) → EncodesRest s [] input (Some (begun name old)) (Some room) r fault → EncodedBy s input room.bytes r fault
  by_one_piece None (more, all, rep, follows) = record {
    call = of_all;
    takes = all_given;
    encodes = record {
      samples = more;
      ends = (spells_all more all, refl, record { written = all_written follows; reports = rep });
      limit = few;
      ahead = omega (arith, bytes_of_samples more input all.spelled rep.samples);
    };
    written = refl;
  }
  by_one_piece (Some (SampleOutOfRange index)) (more, meets, rep) = refused more index meets rep
  by_one_piece (Some (SampleCut index)) (more, meets, rep) = record {
    call = of_all;
    takes = all_given;
    encodes = record {
      samples = more;
      ends = (
        record { rest = meets.rest; whole = meets.reads.split; legal = meets.reads.legal; stops = meets.ends },
        refl,
        meets.index_is,
        record { written = all_written meets.writes; reports = rep },
      );
      limit = few;
      ahead = omega (arith, ap length meets.reads.split, length-append (spellings s more) meets.rest, bytes_of_samples more (spellings s more) refl rep.samples, meets.ends.1, narrow_width s);
    };
    written = refl;
  }
  by_one_piece (Some Write) (inl (more, last, wants, rep)) =
      let xs = more ++ last ∷ [] in
      let front = spellings s xs in
      let samples = bytes_of_samples xs front refl rep.samples in
      let size = length-append more (last ∷ []) in
      let one : length xs - 1 ≡ length more = omega (arith, size) in
      let before : take (length xs - 1) xs ≡ more = ap (λ n. take n xs) one ∙ take-append_seam more (last ∷ []) in
      record {
        call = record { given = front; left = Some wants.rest; written = room.bytes };
        takes = record { left = wants.rest; gave = wants.reads.split; left_is = refl };
        encodes = record {
          samples = xs;
          ends = (
            omega (arith, samples),
            inl (record {
              given = ([], record { split = sym (append-nil front); legal = wants.reads.legal });
              some = omega (arith, size);
              reports = rep;
              stops = subst (λ l. StopsBetween (early_output s l) (early_output s xs) room.bytes) (sym before) (stops_so wants.writes);
            }),
          );
          limit = omega (arith, few, ap length wants.reads.split, length-append front wants.rest);
          ahead = omega (arith, samples);
        };
        written = refl;
      }
  by_one_piece (Some Write) (inr (more, all, rep, stops)) = record {
    call = of_all;
    takes = all_given;
    encodes = record {
      samples = more;
      ends = (
        omega (arith, bytes_of_samples more input all.spelled rep.samples),
        inr (record { given = spells_all more all; end = refl; reports = rep; stops = stops_so stops }),
      );
      limit = few;
      ahead = omega (arith, bytes_of_samples more input all.spelled rep.samples);
    };
    written = refl;
  }
  by_one_piece (Some TooLong) (passes, rep) = absurd (let p : most_input < width s * 0 + length input = passes.passes in omega (arith, p, few))
  by_one_piece (Some Read) h = absurd h
  by_one_piece (Some (CodeEnds samples)) h = absurd h
  by_one_piece (Some (RunPastSegment block)) h = absurd h
  by_one_piece (Some (ResidualTooLarge block)) h = absurd h

-- So where finishing a code of no samples did this with the caller's memory, a call that encodes into memory did.
pub encodes_at_once : (s : Parameters) (input old new : List ℕ) (r : RiceReport) (status : ℕ) → IsLegal s → length input ≤ most_input → FinishesInto s [] input old new r status
    → EncodesInto s input old new r status
encodes_at_once s input old new r status legal few f =
    let by = by_one_piece s legal input few f.name old f.room (report_of r) f.fault f.encodes in
    record {
      call = by.call;
      fault = f.fault;
      takes = by.takes;
      encodes = by.encodes;
      within = f.within;
      writes = subst (λ l. WritesFront l old new f.fault) (sym by.written) f.writes;
      tells = subst (λ l. ReportsCall l f.fault r status) (sym by.written) f.tells;
    }
