-- The setting that C asks for.
use Rattle.std.specs.Prelude.{if◌then◌else◌, Result}
use Rattle.rice_samples.specs.{Parameters.Parameters, Settings.parameters, Settings.setting_of, Settings.any_setting_of, declared.setting.SettingFault.SettingFault}
use Rattle.rice_calls.specs.declared.setting.RiceSetting.{RiceSetting}

abbrev pub asked : RiceSetting → Parameters
asked s = parameters s.bits s.block s.interval s.is_signed s.msb s.three s.preprocess s.pad

-- the setting with these parameters, or why it is refused
abbrev pub setting_asked : RiceSetting → Result Parameters SettingFault
setting_asked s = if s.any_block then any_setting_of (asked s) else setting_of (asked s)
