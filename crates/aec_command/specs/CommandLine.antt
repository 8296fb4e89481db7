-- The command line, as its parser reads it.
use Rattle.std.specs.Prelude.{◌≡◌, ◌⊎◌, ℕ, Bool, true, false, List, [], ◌∷◌, ◌++◌, codes, Some}
use Rattle.std.specs.Option.{option_map_or}
use Rattle.std.specs.Str.{bytes_eq}
use Rattle.clap.specs.Words.{Rule, App, Row, Text, IsAmong, new_rule, one_of, rows_of, found_of, matches_of, fault_of, with_rule}
use Rattle.clap.specs.Simple.{new_shape}
use Rattle.clap.specs.declared.builder.action.ArgAction.TheVariants.{SetTrue}
use Rattle.clap.specs.declared.builder.value_parser.ValueParser.TheVariants as parser
use Rattle.clap.specs.declared.error.kind.ErrorKind.{ErrorKind}
use Rattle.clap.specs.declared.error.kind.ErrorKind.TheVariants as kind
use Rattle.clap.specs.declared.parser.matches.ArgMatches.{ArgMatches}

-- a flag of one letter and of a long name
abbrev pub flag_rule : Text → ℕ → Text → Rule
flag_rule id letter name = record (new_rule id) { short = Some letter; long = Some name; action = Some SetTrue }

-- a flag of a long name alone
abbrev pub long_flag_rule : Text → Rule
long_flag_rule name = record (new_rule name) { long = Some name; action = Some SetTrue }

-- an option of one letter and of a long name, with a number of 32 bits and a default
abbrev pub number_rule : Text → ℕ → Text → Text → Rule
number_rule id letter name default =
    record (new_rule id) { short = Some letter; long = Some name; value_names = 1; parser = Some (parser.Unsigned 0 4294967295); defaults = default ∷ [] }

-- the size of a buffer, which has no effect
abbrev pub buffer_rule : Rule
buffer_rule = record (new_rule (codes "b")) { short = Some 98; value_names = 1; parser = Some (parser.Unsigned 1 4294967295) }

-- the number of samples, of 64 bits
abbrev pub samples_rule : Rule
samples_rule =
    record (new_rule (codes "samples")) { long = Some (codes "samples"); value_names = 1; parser = Some (parser.Unsigned 0 18446744073709551615) }

-- a name that has to be there
abbrev pub name_rule : Text → Rule
name_rule id = record (new_rule id) { value_names = 1; required = true }

-- the rules of the options of one letter, in alphabetical order up to `-j`
abbrev pub rules_up_to_j : List Rule
rules_up_to_j =
    flag_rule (codes "3") 51 (codes "three-bytes") ∷ flag_rule (codes "N") 78 (codes "no-preprocess") ∷ buffer_rule
    ∷ flag_rule (codes "d") 100 (codes "decompress") ∷ number_rule (codes "j") 106 (codes "block") (codes "8") ∷ []

-- those from `-m` on
abbrev pub rules_from_m : List Rule
rules_from_m =
    flag_rule (codes "m") 109 (codes "big-endian") ∷ number_rule (codes "n") 110 (codes "bits") (codes "8")
    ∷ flag_rule (codes "p") 112 (codes "pad") ∷ number_rule (codes "r") 114 (codes "interval") (codes "2")
    ∷ flag_rule (codes "s") 115 (codes "signed") ∷ []

-- those that have no letter
abbrev pub long_rules : List Rule
long_rules = samples_rule ∷ long_flag_rule (codes "test") ∷ long_flag_rule (codes "verbose") ∷ []

-- a command with these rules after its own
abbrev pub with_rules : App → List Rule → App
with_rules a [] = a
with_rules a (rule ∷ rules) = with_rules (with_rule a rule) rules

-- the command with its texts, before it has arguments
abbrev pub without_arguments : App
without_arguments = record { top = record (new_shape (codes "aec")) { has_version = true }; subs = [] }

-- The command of a test: the options and one name, in order.
unfoldable pub aec_test : App
aec_test = record {
  top = record (new_shape (codes "aec")) {
    has_version = true;
    rules = rules_up_to_j ++ rules_from_m ++ long_rules ++ name_rule (codes "source") ∷ [];
  };
  subs = [];
}

-- The command: its options and its two names, in order.
unfoldable pub aec : App
aec = with_rule aec_test (name_rule (codes "dest"))

-- the words are in order for a command, and these are their matches
pub record AreParsedBy (command : App) (words : List Text) (m : ArgMatches) : Type 0 where
  pub in_order : fault_of command words ≡ []
  pub rows : rows_of (found_of m) ≡ matches_of command words

-- a test is asked for
abbrev pub asks_test : List Row → Bool
asks_test rows = option_map_or (λ t. bytes_eq t (codes "true")) (one_of (codes "test") rows) false

-- The words lack a name, and are in order for a test, which they ask for.
pub record AreOfTest (words : List Text) : Type 0 where
  pub lack : IsAmong kind.MissingRequiredArgument (fault_of aec words)
  pub in_order : fault_of aec_test words ≡ []
  pub asks : asks_test (matches_of aec_test words) ≡ true

-- the words are in order, with two names or as those of a test, and these are their matches
abbrev pub AreParsedTo : List Text → ArgMatches → Type 0
AreParsedTo words m = AreParsedBy aec words m ⊎ (AreOfTest words × (rows_of (found_of m) ≡ matches_of aec_test words))

-- the words are not in order for a command, for a reason of this kind, or memory ran out
abbrev pub IsRefusedBy : App → List Text → ErrorKind → Type 0
IsRefusedBy command words k = (k ≡ kind.OutOfMemory) ⊎ IsAmong k (fault_of command words)

-- the words are not in order, for a reason of this kind, or memory ran out
abbrev pub AreRefusedFor : List Text → ErrorKind → Type 0
AreRefusedFor words k = (k ≡ kind.OutOfMemory) ⊎ (IsAmong k (fault_of aec words) × (k ≡ kind.MissingRequiredArgument → AreOfTest words → ⊥))
