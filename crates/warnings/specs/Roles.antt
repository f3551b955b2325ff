-- What is asked of an operator, by what it is; of none, and of a name that is no operator's, nothing is so.
use Rattle.std.specs.Prelude.{Bool, true, false, Option, Some}
use Rattle.yayul.specs.declared.role.Role.{Role}
use Rattle.warnings.specs.declared.roles.Class.{Class}

-- SETLOC
abbrev pub is_setloc : Option Role → Bool
is_setloc (Some Role.Setloc) = true
is_setloc _ = false

-- BANK and BLOCK
abbrev pub names_bank : Option Role → Bool
names_bank (Some Role.Bank) = true
names_bank (Some Role.Block) = true
names_bank _ = false

-- BLOCK
abbrev pub is_block : Option Role → Bool
is_block (Some Role.Block) = true
is_block _ = false

-- ERASE
abbrev pub is_erase : Option Role → Bool
is_erase (Some Role.Erase) = true
is_erase _ = false

-- EQUALS and its other name
abbrev pub is_equals : Option Role → Bool
is_equals (Some Role.Equals) = true
is_equals _ = false

-- it gives no word, and moves the location
abbrev pub moves_location : Option Role → Bool
moves_location (Some Role.Setloc) = true
moves_location (Some Role.Bank) = true
moves_location (Some Role.Block) = true
moves_location (Some Role.Erase) = true
moves_location _ = false

-- it gives no word, and leaves the location as it is
abbrev pub keeps_location : Option Role → Bool
keeps_location (Some Role.Equals) = true
keeps_location (Some Role.Ebank) = true
keeps_location (Some Role.Ignored) = true
keeps_location _ = false

-- it takes no label
abbrev pub refuses_label : Option Role → Bool
refuses_label (Some Role.Setloc) = true
refuses_label (Some Role.Bank) = true
refuses_label (Some Role.Block) = true
refuses_label (Some Role.Ebank) = true
refuses_label _ = false

-- octal digits
abbrev pub is_octal : Option Role → Bool
is_octal (Some Role.Octal) = true
is_octal _ = false

-- octal digits of two words
abbrev pub is_octal_pair : Option Role → Bool
is_octal_pair (Some Role.OctalPair) = true
is_octal_pair _ = false

-- a verb and a noun
abbrev pub is_verb_noun : Option Role → Bool
is_verb_noun (Some Role.VerbNoun) = true
is_verb_noun _ = false

-- a decimal constant of a word
abbrev pub is_decimal : Option Role → Bool
is_decimal (Some Role.Decimal) = true
is_decimal _ = false

-- a decimal constant
abbrev pub takes_decimal : Option Role → Bool
takes_decimal (Some Role.Decimal) = true
takes_decimal (Some Role.DecimalPair) = true
takes_decimal _ = false

-- constants and addresses, which are no instructions
abbrev pub is_constant : Option Role → Bool
is_constant (Some Role.Octal) = true
is_constant (Some Role.OctalPair) = true
is_constant (Some Role.VerbNoun) = true
is_constant (Some Role.Decimal) = true
is_constant (Some Role.DecimalPair) = true
is_constant (Some Role.Address) = true
is_constant (Some Role.ErasableAddress) = true
is_constant (Some Role.FixedAddress) = true
is_constant (Some Role.FixedComplement) = true
is_constant (Some Role.FarAddress) = true
is_constant (Some Role.FarComplement) = true
is_constant (Some Role.BankConstant) = true
is_constant (Some Role.CountComplement) = true
is_constant (Some Role.Downlist) = true
is_constant (Some Role.DownlistChannel) = true
is_constant _ = false

-- it gives two words
abbrev pub gives_two : Option Role → Bool
gives_two (Some Role.OctalPair) = true
gives_two (Some Role.DecimalPair) = true
gives_two (Some Role.FarAddress) = true
gives_two (Some Role.FarComplement) = true
gives_two _ = false

-- it takes no operand
abbrev pub takes_nothing : Option Role → Bool
takes_nothing (Some Role.Leave) = true
takes_nothing (Some Role.Return) = true
takes_nothing (Some Role.Resume) = true
takes_nothing (Some Role.LeaveBank) = true
takes_nothing (Some Role.Implied) = true
takes_nothing (Some Role.Release) = true
takes_nothing (Some Role.ChangeA) = true
takes_nothing (Some Role.ChangeL) = true
takes_nothing (Some Role.ChangeBoth) = true
takes_nothing (Some Role.Skip) = true
takes_nothing (Some Role.Idle) = true
takes_nothing _ = false

-- it takes a channel
abbrev pub takes_channel : Option Role → Bool
takes_channel (Some Role.ReadChannel) = true
takes_channel (Some Role.WriteChannel) = true
takes_channel (Some Role.CombineChannel) = true
takes_channel (Some Role.DownlistChannel) = true
takes_channel _ = false

-- it takes an erasable place
abbrev pub takes_erasable_place : Option Role → Bool
takes_erasable_place (Some Role.Ebank) = true
takes_erasable_place (Some Role.ErasableAddress) = true
takes_erasable_place (Some Role.Downlist) = true
takes_erasable_place _ = false

-- it takes a fixed place
abbrev pub takes_fixed_place : Option Role → Bool
takes_fixed_place (Some Role.FixedAddress) = true
takes_fixed_place (Some Role.FarAddress) = true
takes_fixed_place (Some Role.FixedComplement) = true
takes_fixed_place (Some Role.ReadFixed) = true
takes_fixed_place _ = false

-- it takes a fixed place of a bank below 30
abbrev pub takes_low_bank : Option Role → Bool
takes_low_bank (Some Role.BankConstant) = true
takes_low_bank (Some Role.FarComplement) = true
takes_low_bank _ = false

-- the complement of CCS
abbrev pub is_count_complement : Option Role → Bool
is_count_complement (Some Role.CountComplement) = true
is_count_complement _ = false

-- it goes on at an address of fixed memory, or may
abbrev pub leads_to_fixed : Option Role → Bool
leads_to_fixed (Some Role.Jump) = true
leads_to_fixed (Some Role.Branch) = true
leads_to_fixed _ = false

-- it never goes on to the next word, or leaves there what a routine takes
abbrev pub is_leaving : Option Role → Bool
is_leaving (Some Role.Call) = true
is_leaving (Some Role.Jump) = true
is_leaving (Some Role.Leave) = true
is_leaving (Some Role.Return) = true
is_leaving (Some Role.Resume) = true
is_leaving (Some Role.LeaveBank) = true
is_leaving _ = false

-- it sets BB or FB
abbrev pub sets_bank : Option Role → Bool
sets_bank (Some Role.LeaveBank) = true
sets_bank _ = false

-- it reads a word where a number is likely meant
abbrev pub reads : Option Role → Bool
reads (Some Role.Read) = true
reads (Some Role.Multiply) = true
reads (Some Role.ReadErasable) = true
reads (Some Role.Count) = true
reads (Some Role.Divide) = true
reads (Some Role.Subtract) = true
reads _ = false

-- it reads a word, an instruction as well as any
abbrev pub reads_word : Option Role → Bool
reads_word (Some Role.Read) = true
reads_word (Some Role.Multiply) = true
reads_word (Some Role.ReadFixed) = true
reads_word (Some Role.ReadErasable) = true
reads_word (Some Role.Count) = true
reads_word (Some Role.Divide) = true
reads_word (Some Role.Subtract) = true
reads_word (Some Role.ReadPair) = true
reads_word (Some Role.Index) = true
reads_word _ = false

-- it reads a word of erasable memory alone
abbrev pub reads_erasable : Option Role → Bool
reads_erasable (Some Role.ReadErasable) = true
reads_erasable (Some Role.Count) = true
reads_erasable (Some Role.Divide) = true
reads_erasable (Some Role.Subtract) = true
reads_erasable (Some Role.ReadCounter) = true
reads_erasable (Some Role.Index) = true
reads_erasable _ = false

-- it adds to the address of the next word
abbrev pub is_index : Option Role → Bool
is_index (Some Role.Index) = true
is_index _ = false

-- it writes a word of erasable memory
abbrev pub writes_erasable : Option Role → Bool
writes_erasable (Some Role.Transfer) = true
writes_erasable (Some Role.ExchangeA) = true
writes_erasable (Some Role.ExchangeL) = true
writes_erasable (Some Role.ExchangeQ) = true
writes_erasable (Some Role.StorePair) = true
writes_erasable (Some Role.Modify) = true
writes_erasable (Some Role.Accumulate) = true
writes_erasable (Some Role.ModifyPair) = true
writes_erasable _ = false

-- it writes a register, and may so write Z
abbrev pub stores : Option Role → Bool
stores (Some Role.Transfer) = true
stores (Some Role.ExchangeA) = true
stores (Some Role.ExchangeL) = true
stores (Some Role.ExchangeQ) = true
stores (Some Role.StorePair) = true
stores _ = false

-- it takes two words
abbrev pub takes_pair : Option Role → Bool
takes_pair (Some Role.ReadPair) = true
takes_pair (Some Role.StorePair) = true
takes_pair (Some Role.ModifyPair) = true
takes_pair _ = false

-- it leads to an address
abbrev pub leads_on_to : Option Role → Bool
leads_on_to (Some Role.Call) = true
leads_on_to (Some Role.Jump) = true
leads_on_to (Some Role.Branch) = true
leads_on_to _ = false

-- it subtracts a word of erasable memory
abbrev pub subtracts : Option Role → Bool
subtracts (Some Role.Subtract) = true
subtracts _ = false

-- it goes on at any address, and leaves in Q where it came from
abbrev pub is_call : Option Role → Bool
is_call (Some Role.Call) = true
is_call _ = false

-- it goes on at an address of fixed memory, whatever stands in A
abbrev pub is_jump : Option Role → Bool
is_jump (Some Role.Jump) = true
is_jump _ = false

-- it stores A
abbrev pub keeps_a : Option Role → Bool
keeps_a (Some Role.Transfer) = true
keeps_a (Some Role.ExchangeA) = true
keeps_a (Some Role.StorePair) = true
keeps_a _ = false

-- it stores L
abbrev pub keeps_l : Option Role → Bool
keeps_l (Some Role.ExchangeL) = true
keeps_l (Some Role.StorePair) = true
keeps_l _ = false

-- it stores Q
abbrev pub keeps_q : Option Role → Bool
keeps_q (Some Role.ExchangeQ) = true
keeps_q _ = false

-- it leaves another word in A, and stores A nowhere first
abbrev pub changes_a : Option Role → Bool
changes_a (Some Role.Read) = true
changes_a (Some Role.Multiply) = true
changes_a (Some Role.ReadFixed) = true
changes_a (Some Role.ReadErasable) = true
changes_a (Some Role.Count) = true
changes_a (Some Role.Divide) = true
changes_a (Some Role.Subtract) = true
changes_a (Some Role.ReadCounter) = true
changes_a (Some Role.ReadPair) = true
changes_a (Some Role.Accumulate) = true
changes_a (Some Role.ModifyPair) = true
changes_a (Some Role.ReadChannel) = true
changes_a (Some Role.CombineChannel) = true
changes_a (Some Role.ChangeA) = true
changes_a (Some Role.ChangeBoth) = true
changes_a _ = false

-- so too in L
abbrev pub changes_l : Option Role → Bool
changes_l (Some Role.Multiply) = true
changes_l (Some Role.Divide) = true
changes_l (Some Role.ReadPair) = true
changes_l (Some Role.ModifyPair) = true
changes_l (Some Role.ChangeL) = true
changes_l (Some Role.ChangeBoth) = true
changes_l _ = false

-- it writes a channel
abbrev pub writes_channel : Option Role → Bool
writes_channel (Some Role.WriteChannel) = true
writes_channel (Some Role.CombineChannel) = true
writes_channel _ = false

-- it goes on where A, L or another word says
abbrev pub computes_way : Option Role → Bool
computes_way (Some Role.Leave) = true
computes_way _ = false

-- RESUME
abbrev pub resumes : Option Role → Bool
resumes (Some Role.Resume) = true
resumes _ = false

-- RETURN and RESUME
abbrev pub goes_back : Option Role → Bool
goes_back (Some Role.Return) = true
goes_back (Some Role.Resume) = true
goes_back _ = false

-- RELINT
abbrev pub releases : Option Role → Bool
releases (Some Role.Release) = true
releases _ = false

-- it goes on at one of four words
abbrev pub has_four_ways : Option Role → Bool
has_four_ways (Some Role.Count) = true
has_four_ways _ = false

-- it may skip a word where A has overflow
abbrev pub may_skip : Option Role → Bool
may_skip (Some Role.Transfer) = true
may_skip (Some Role.Skip) = true
may_skip _ = false

-- NOOP
abbrev pub is_idle : Option Role → Bool
is_idle (Some Role.Idle) = true
is_idle _ = false

-- whether an operator is one of a class
abbrev pub has : Class → Option Role → Bool
has Class.Setloc role = is_setloc role
has Class.NamesBank role = names_bank role
has Class.Block role = is_block role
has Class.Erase role = is_erase role
has Class.Equals role = is_equals role
has Class.MovesLocation role = moves_location role
has Class.KeepsLocation role = keeps_location role
has Class.RefusesLabel role = refuses_label role
has Class.Octal role = is_octal role
has Class.OctalPair role = is_octal_pair role
has Class.VerbNoun role = is_verb_noun role
has Class.Decimal role = is_decimal role
has Class.TakesDecimal role = takes_decimal role
has Class.Constant role = is_constant role
has Class.GivesTwo role = gives_two role
has Class.TakesNothing role = takes_nothing role
has Class.TakesChannel role = takes_channel role
has Class.TakesErasablePlace role = takes_erasable_place role
has Class.TakesFixedPlace role = takes_fixed_place role
has Class.TakesLowBank role = takes_low_bank role
has Class.CountComplement role = is_count_complement role
has Class.LeadsToFixed role = leads_to_fixed role
has Class.Leaving role = is_leaving role
has Class.SetsBank role = sets_bank role
has Class.Reads role = reads role
has Class.ReadsWord role = reads_word role
has Class.ReadsErasable role = reads_erasable role
has Class.Index role = is_index role
has Class.WritesErasable role = writes_erasable role
has Class.Stores role = stores role
has Class.TakesPair role = takes_pair role
has Class.LeadsOnTo role = leads_on_to role
has Class.Subtracts role = subtracts role
has Class.Call role = is_call role
has Class.Jump role = is_jump role
has Class.KeepsA role = keeps_a role
has Class.KeepsL role = keeps_l role
has Class.KeepsQ role = keeps_q role
has Class.ChangesA role = changes_a role
has Class.ChangesL role = changes_l role
has Class.WritesChannel role = writes_channel role
has Class.ComputesWay role = computes_way role
has Class.Resumes role = resumes role
has Class.GoesBack role = goes_back role
has Class.Releases role = releases role
has Class.HasFourWays role = has_four_ways role
has Class.MaySkip role = may_skip role
has Class.Idle role = is_idle role
