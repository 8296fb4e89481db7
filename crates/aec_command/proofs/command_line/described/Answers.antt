use Rattle.std.proofs.Common.{◌≡◌, ◌∙◌, true, codes, ap}
use Rattle.clap.specs.Words.{App, app_of, new_app}
use Rattle.clap.specs.Simple.{app_of_fields}
use Rattle.aec_command.proofs.command_line.described.Goals as goal

pub returns : goal.returns
returns c =
    let named : app_of c.in_ok-bin_name.field-0 ≡ new_app (codes "aec") = ap app_of_fields c.in_ok-bin_name.ensures.0 ∙ c.new.ensures.app in
    let versioned = ap app_of_fields c.version.ensures ∙ ap (λ (x : App). record x { top = record x.top { has_version = true } }) named in
    ap app_of_fields c.after_help.ensures ∙ ap app_of_fields c.about.ensures ∙ versioned
