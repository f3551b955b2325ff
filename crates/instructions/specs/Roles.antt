-- Which operators make an instruction; the others make constants or addresses, or no word.
use Rattle.std.specs.Prelude.{◌||◌, Bool, true, false, Option, Some}
use Rattle.yayul.specs.declared.role.Role.{Role}

-- it goes on elsewhere, or takes no operand
abbrev pub is_jump : Option Role → Bool
is_jump (Some Role.Call) = true
is_jump (Some Role.Jump) = true
is_jump (Some Role.Branch) = true
is_jump (Some Role.Leave) = true
is_jump (Some Role.Return) = true
is_jump (Some Role.Resume) = true
is_jump (Some Role.LeaveBank) = true
is_jump (Some Role.Implied) = true
is_jump (Some Role.Release) = true
is_jump (Some Role.ChangeA) = true
is_jump (Some Role.ChangeL) = true
is_jump (Some Role.ChangeBoth) = true
is_jump (Some Role.Skip) = true
is_jump (Some Role.Idle) = true
is_jump _ = false

-- it reads a word, and writes none
abbrev pub is_reading : Option Role → Bool
is_reading (Some Role.Read) = true
is_reading (Some Role.Multiply) = true
is_reading (Some Role.ReadFixed) = true
is_reading (Some Role.ReadErasable) = true
is_reading (Some Role.Count) = true
is_reading (Some Role.Divide) = true
is_reading (Some Role.Subtract) = true
is_reading (Some Role.ReadCounter) = true
is_reading (Some Role.ReadPair) = true
is_reading (Some Role.Index) = true
is_reading _ = false

-- it writes a word, or reads or writes a channel
abbrev pub is_writing : Option Role → Bool
is_writing (Some Role.Transfer) = true
is_writing (Some Role.ExchangeA) = true
is_writing (Some Role.ExchangeL) = true
is_writing (Some Role.ExchangeQ) = true
is_writing (Some Role.StorePair) = true
is_writing (Some Role.Modify) = true
is_writing (Some Role.Accumulate) = true
is_writing (Some Role.ModifyPair) = true
is_writing (Some Role.ReadChannel) = true
is_writing (Some Role.WriteChannel) = true
is_writing (Some Role.CombineChannel) = true
is_writing _ = false

abbrev pub is_instruction : Option Role → Bool
is_instruction role = is_jump role || is_reading role || is_writing role
