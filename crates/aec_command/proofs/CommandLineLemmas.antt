-- What the parser makes of the command, where its definition is that of the command line.
use Rattle.std.proofs.Common.{◌≡◌, ◌∙◌, ◌&&◌, Bool, true, false, List, codes, Result, Ok, Err, IfOk, IfErr, refl, ap, subst}
use Rattle.std.specs.Option.{option_map_or}
use Rattle.std.specs.Str.{bytes_eq}
use Rattle.clap.specs.Words.{App, Row, Rule, Text, HasMatchesOf, AddsArg, FailsBy, app_of, found_of, rows_of, rule_of, with_rule, fault_of, kind_of, is_simple, is_simple_and_free}
use Rattle.clap.specs.Faults.{is_free_app}
use Rattle.clap.specs.Simple.{built}
use Rattle.clap.proofs.WalkLemmas.{one_text-rows}
use Rattle.clap.specs.declared.builder.arg.Arg.{Arg}
use Rattle.clap.specs.declared.builder.command.Command.{Command}
use Rattle.clap.specs.declared.error.Error.{Error}
use Rattle.clap.specs.declared.parser.matches.ArgMatches.{ArgMatches}
use Rattle.aec_command.specs.CommandLine.{AreParsedBy, IsRefusedBy, aec, aec_test, asks_test}
use Rattle.aec_command.specs.Plan.{is_flagged}

pub aec_is_free : is_simple_and_free aec ≡ true
unfolding aec aec_test
aec_is_free = refl

pub test_is_free : is_simple_and_free aec_test ≡ true
unfolding aec_test
test_is_free = refl

-- one more argument
pub argument_adds_rule : (old new : Command) (a : Arg) (x : App) (r : Rule) → AddsArg old a new → a.global ≡ false → rule_of a ≡ r → app_of old ≡ x → app_of new ≡ with_rule x r
argument_adds_rule old new a x r adds local rule before = adds.shape local ∙ ap (λ y. with_rule y (rule_of a)) before ∙ ap (with_rule x) rule

-- the last argument, if there is memory for it
pub last_argument_adds_rule : {E : Type 0} (old : Command) (a : Arg) (x : App) (r : Rule) (result : Result Command E) → IfOk result (λ new. AddsArg old a new)
    → a.global ≡ false → rule_of a ≡ r → app_of old ≡ x → IfOk result (λ new. app_of new ≡ with_rule x r)
last_argument_adds_rule old a x r (Ok new) adds local rule before = argument_adds_rule old new a x r adds local rule before
last_argument_adds_rule old a x r (Err e) adds local rule before = tt

-- what the parser refuses of a command, it refuses of one that is built as it is
fails_by : (command a : App) (words : List Text) (r : Result ArgMatches Error) → is_simple_and_free command ≡ true → a ≡ command
    → (is_simple_and_free a ≡ true → FailsBy (fault_of a words) r) → FailsBy (fault_of command words) r
fails_by command a words r free is_it fails =
    let of_it : is_simple_and_free command ≡ true → FailsBy (fault_of command words) r =
    subst (λ b. is_simple_and_free b ≡ true → FailsBy (fault_of b words) r) is_it fails in
    of_it free

first_holds : (p q : Bool) → (p && q) ≡ true → p ≡ true
first_holds true q e = refl
first_holds false q e = e

-- the words' matches
pub words_are_parsed : (command a : App) (words : List Text) (r : Result ArgMatches Error) → is_simple_and_free command ≡ true → a ≡ command
    → IfOk r (HasMatchesOf a words) → (is_simple_and_free a ≡ true → FailsBy (fault_of a words) r) → IfOk r (AreParsedBy command words)
words_are_parsed command a words (Ok m) free is_it has fails =
    let of_it : HasMatchesOf command words m = subst (λ b. HasMatchesOf b words m) is_it has in
    record { in_order = fails_by command a words (Ok m) free is_it fails; rows = (of_it (first_holds (is_simple command) (is_free_app (built command)) free)).0 }
words_are_parsed command a words (Err e) free is_it has fails = tt

-- the words' faults
pub words_are_refused : (command a : App) (words : List Text) (r : Result ArgMatches Error) → is_simple_and_free command ≡ true → a ≡ command
    → (is_simple_and_free a ≡ true → FailsBy (fault_of a words) r) → IfErr r (λ e. IsRefusedBy command words (kind_of e))
words_are_refused command a words (Ok m) free is_it fails = tt
words_are_refused command a words (Err e) free is_it fails = fails_by command a words (Err e) free is_it fails

-- the flag of a test, by the rows
pub asks_of : (m : ArgMatches) (rows : List Row) → rows_of (found_of m) ≡ rows → is_flagged (found_of m) (codes "test") ≡ asks_test rows
asks_of m rows e = ap (λ t. option_map_or (λ t. bytes_eq t (codes "true")) t false) (one_text-rows (found_of m) (codes "test")) ∙ ap asks_test e
