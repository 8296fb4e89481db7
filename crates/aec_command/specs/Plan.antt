-- What a parsed command line asks for.
use Rattle.std.specs.Prelude.{ℕ, ◌^◌, Bool, false, not, ◌&&◌, nat_lt, List, length, codes, Option, Some, None, is_some, Result, Ok, Err, if◌then◌else◌}
use Rattle.std.specs.List.{list_all}
use Rattle.std.specs.Option.{option_and_then, option_map_or}
use Rattle.std.specs.Char.{digit_value}
use Rattle.std.specs.Str.{bytes_eq}
use Rattle.std.specs.Str.Parse.{digits_value, without_leading_plus}
use Rattle.clap.specs.Words.{first_value, one_text}
use Rattle.clap.specs.declared.parser.matches.Found.{Found}
use Rattle.rice_samples.specs.Parameters.{Parameters}
use Rattle.rice_samples.specs.Settings.{setting_of}
use Rattle.rice_samples.specs.declared.setting.SettingFault.{SettingFault}
use Rattle.aec_command.specs.declared.plan.Plan.{Plan}
use Rattle.aec_command.specs.declared.plan.PlanFault.{PlanFault}
use Rattle.aec_command.specs.declared.plan.PlanFault.TheVariants as fault

-- the text is decimal digits, and nothing else
abbrev pub is_digits : List ℕ → Bool
is_digits ds = nat_lt 0 (length ds) && list_all (λ c. nat_lt (digit_value c) 10) ds

-- the number that a text writes, where it is one below a limit
abbrev pub number_below : ℕ → List ℕ → Option ℕ
number_below limit text =
    if is_digits (without_leading_plus text)
    && nat_lt (digits_value 10 (without_leading_plus text)) limit
    then Some (digits_value 10 (without_leading_plus text)) else None

-- the readable number of an option, if it has one
abbrev pub number_in : ℕ → Found → List ℕ → Option ℕ
number_in limit f id = option_and_then (number_below limit) (one_text f id)

-- a flag was used
abbrev pub is_flagged : Found → List ℕ → Bool
is_flagged f id = option_map_or (λ t. bytes_eq t (codes "true")) (one_text f id) false

-- what a plan says, with its names as texts
pub record PlanView : Type 0 where
  pub setting : Parameters
  pub decode : Bool
  pub samples : Option ℕ
  pub source : List ℕ
  pub dest : List ℕ

abbrev pub plan_view : Plan → PlanView
plan_view p = record {
  setting = p.setting;
  decode = p.decode;
  samples = p.samples;
  source = p.source.now;
  dest = p.dest.now;
}

-- what the answer says, with its plan as what the plan says
abbrev pub answer_view : Result Plan PlanFault → Result PlanView PlanFault
answer_view (Ok p) = Ok (plan_view p)
answer_view (Err e) = Err e

-- the samples that are asked for
abbrev pub samples_in : Found → Option ℕ
samples_in f = number_in (2 ^ 64) f (codes "samples")

-- decoding is asked for
abbrev pub decodes : Found → Bool
decodes f = is_flagged f (codes "d")

-- the setting of these numbers and of the flags that were used
abbrev pub setting_with : Found → ℕ → ℕ → ℕ → Result Parameters SettingFault
setting_with f bits block interval =
    setting_of (record {
      bits = bits;
      block = block;
      interval = interval;
      signed = is_flagged f (codes "s");
      msb = is_flagged f (codes "m");
      three = is_flagged f (codes "3");
      preprocess = not (is_flagged f (codes "N"));
      pad = is_flagged f (codes "p");
    })

abbrev pub setting_with_entries : Found → Option ℕ → Option ℕ → Option ℕ → Option (Result Parameters SettingFault)
setting_with_entries f (Some bits) (Some block) (Some interval) = Some (setting_with f bits block interval)
setting_with_entries f bits block interval = None

-- the setting that the options give, or why it is refused, if its numbers can be read
abbrev pub setting_in : Found → Option (Result Parameters SettingFault)
setting_in f =
    setting_with_entries f (number_in (2 ^ 32) f (codes "n")) (number_in (2 ^ 32) f (codes "j"))
    (number_in (2 ^ 32) f (codes "r"))

-- the plan of these names and this setting, if there are all three
abbrev pub plan_with_entries : Found → Option (List ℕ) → Option (List ℕ) → Option (Result Parameters SettingFault) → Result PlanView PlanFault
plan_with_entries f (Some source) (Some dest) (Some (Ok setting)) = Ok (record {
  setting = setting;
  decode = decodes f;
  samples = samples_in f;
  source = source;
  dest = dest;
})
plan_with_entries f (Some source) (Some dest) (Some (Err e)) = Err (fault.Setting e)
plan_with_entries f source dest setting = Err fault.Unreadable

-- the plan that the entries give, or the first reason to refuse them
abbrev pub plan_in : Found → Result PlanView PlanFault
plan_in f =
    if is_some (samples_in f) && not (decodes f) then Err fault.SamplesWithoutDecode
    else plan_with_entries f (first_value f (codes "source")) (first_value f (codes "dest")) (setting_in f)
