-- A run whose reads and writes are counted.
use Rattle.std.proofs.Common.{◌≡◌, ◌∙◌, ℕ, Bool, true, false, List, Option, Some, None, Result, Ok, Err, refl, sym, ap, inr, subst}
use Rattle.feed.specs.declared.entry.Entry.{Entry}
use Rattle.cpu.specs.State.{Scenario}
use Rattle.symbols.specs.Values.{SymbolTable}
use Rattle.access.specs.declared.view.View.{View}
use Rattle.access.specs.declared.view.View.TheVariants.{All, One}
use Rattle.access.specs.Asked.{view_asked}
use Rattle.access.specs.Tallies.{Counts, Tallied}
use Rattle.access.proofs.Sums.{add_up}
use Rattle.workshop.specs.AccessRuns.{AddsUpIn, Counted, CountedBy, CountsRun, TellsCounted}
use Rattle.workshop.specs.Failures.{Reader, Writer, has_write_failed, is_write_failed}
use Rattle.workshop.specs.Inputs.{Code, loaded}
use Rattle.workshop.specs.Loading.{Files, Loads, LoadsThen}
use Rattle.workshop.specs.declared.fault.WorkshopFault.{WorkshopFault}
use Rattle.workshop.specs.declared.fault.WorkshopFault.TheVariants as fault
use Rattle.workshop.specs.declared.inputs.Loaded.{Loaded}
use Rattle.workshop.specs.declared.origin.Origin.{Origin}

pub adds_up_in : (view : View) (scenario : Scenario) (n : ℕ) (t : Tallied) → Counts view scenario n t → AddsUpIn view scenario n
adds_up_in All scenario n t counts = add_up scenario n counts.known
adds_up_in (One c) scenario n t counts = tt

-- there is no such cell
pub counts_none : (place : Option (List ℕ)) (symbols : SymbolTable) (scenario : Scenario) (steps : ℕ) (before after : Writer)
    (result : Result Bool WorkshopFault)
    → view_asked symbols place ≡ None → result ≡ Ok false → after ≡ before → CountsRun place symbols scenario steps before after result
counts_none place symbols scenario steps before after result none a b =
    inr (subst (λ (v : Option View). CountedBy v symbols scenario steps before after result) (sym none) (a, b))

-- all steps are counted
pub counts_some : (place : Option (List ℕ)) (symbols : SymbolTable) (scenario : Scenario) (steps : ℕ) (view : View) (before after : Writer)
    (result : Result Bool WorkshopFault)
    → view_asked symbols place ≡ Some view → Counted view symbols scenario steps before after result
    → CountsRun place symbols scenario steps before after result
counts_some place symbols scenario steps view before after result some counted =
    inr (subst (λ (v : Option View). CountedBy v symbols scenario steps before after result) (sym some) counted)

-- what is read is no fault of a writer
unwritten_feed : (code : Code) (inputs : Result (List Entry) WorkshopFault) (result : Result Loaded WorkshopFault)
    → has_write_failed inputs ≡ false → result ≡ loaded (Ok code) inputs → has_write_failed result ≡ false
unwritten_feed code (Ok is) result e h = ap has_write_failed h
unwritten_feed code (Err why) result e h = ap has_write_failed h ∙ e

unwritten_by : (code : Result Code WorkshopFault) (before after : Reader) (result : Result Loaded WorkshopFault)
    → has_write_failed code ≡ false → LoadsThen code before after result → has_write_failed result ≡ false
unwritten_by (Err why) before after result e h = ap has_write_failed h.0 ∙ e
unwritten_by (Ok code) before after result e h = unwritten_feed code h.inputs result h.reads.writer h.gives

pub unwritten : (from : Origin) (before after : Files) (result : Result Loaded WorkshopFault) → Loads from before after result
    → has_write_failed result ≡ false
unwritten from before after result loads = unwritten_by loads.code before.feed after.feed result loads.reads.writer loads.next

-- where a program or a feed is refused nothing is told
pub count_refused : (steps : ℕ) (w : Writer) (why : WorkshopFault) → is_write_failed why ≡ false → TellsCounted steps w w (Err why)
count_refused steps w fault.NoMemory e = refl
count_refused steps w fault.ReadFailed e = refl
count_refused steps w fault.WriteFailed e = absurd (cc)
count_refused steps w (fault.Source _) e = refl
count_refused steps w (fault.Feed _) e = refl
count_refused steps w (fault.Rope _) e = refl
count_refused steps w (fault.Table _) e = refl
count_refused steps w fault.TooLong e = refl
