-- Which settings there are, and of which parameter the fault is where there is none.
use Rattle.std.specs.Prelude.{ℕ, Bool, ◌≡◌, ◌+◌, ◌%◌, if◌then◌else◌, nat_le, ◌&&◌, ◌||◌, ◌==◌, Result, Ok, Err}
use Rattle.rice_samples.specs.declared.setting.SettingFault.{TheVariants.BadBits, TheVariants.BadBlock, TheVariants.BadAnyBlock, TheVariants.BadInterval, SettingFault}
use Rattle.rice_samples.specs.{Parameters.Parameters, Parameters.value_count, Parameters.offset as offset_of, Parameters.id_len, Limits.longest_interval}

abbrev pub parameters : ℕ → ℕ → ℕ → Bool → Bool → Bool → Bool → Bool → Parameters
parameters bits block interval signed msb three preprocess pad = record {
  bits = bits;
  block = block;
  interval = interval;
  signed = signed;
  msb = msb;
  three = three;
  preprocess = preprocess;
  pad = pad;
}

-- the greatest level of these, the number of levels of values below 0, and the number of bits of an identifier
abbrev pub HasDerived : Parameters → ℕ → ℕ → ℕ → Type 0
HasDerived s greatest offset id_bits = (greatest + 1 ≡ value_count s) × (offset ≡ offset_of s) × (id_bits ≡ id_len s)

-- The setting with these parameters where they are legal, else the fault of the first that is not, in the order bits, block, interval:
-- `takes_block` says whether the size of a block is one that is taken, and `bad_block` is the fault of one that is not.
abbrev pub setting_if : (takes_block : Bool) → (bad_block : SettingFault) → Parameters → Result Parameters SettingFault
setting_if takes_block bad_block s =
    if nat_le 1 s.bits && nat_le s.bits 32 then
    (if takes_block then
    (if nat_le 1 s.interval && nat_le s.interval longest_interval then Ok s else Err BadInterval)
    else Err bad_block)
    else Err BadBits

-- where the standard's sizes are taken,
abbrev pub setting_of : Parameters → Result Parameters SettingFault
setting_of s = setting_if (s.block == 8 || s.block == 16 || s.block == 32 || s.block == 64) BadBlock s

-- and where any size that a block can have is
abbrev pub any_setting_of : Parameters → Result Parameters SettingFault
any_setting_of s = setting_if (nat_le 2 s.block && nat_le s.block 64 && s.block % 2 == 0) BadAnyBlock s
