-- `why` since a step: the steps of a chain from one on, and nothing of those before.
use Rattle.std.specs.Prelude.{ℕ, zero, suc, ◌-◌, nat_le, not, Bool, true, false, List, [], ◌∷◌, ◌++◌, length, Option, None, Some}
use Rattle.std.specs.Prelude.{codes, decimal, if◌then◌else◌}
use Rattle.symbols.specs.Values.{SymbolTable}
use Rattle.cpu.specs.State.{State, Scenario}
use Rattle.cpu.specs.Run.{run}
use Rattle.cpu.specs.Links.{Link, targets}
use Rattle.cpu.specs.Chains.{cells_among, writes_some, link_at, before_step}
use Rattle.cpu.specs.NextStep.{next_step}
use Rattle.cpu.specs.declared.spot.Spot.{Spot}
use Rattle.replay.specs.Whys.{last_writer}
use Rattle.commands.specs.declared.extended.IndexLines.{IndexLines}
use Rattle.commands.specs.declared.extended.IndexLines.TheVariants.{Omitted, Told}
use Rattle.commands.specs.declared.extended.LinkLines.{LinkLines}
use Rattle.debugger.specs.Replies.{line}
use Rattle.origins.specs.Following.{CellSet, cells_of}
use Rattle.debugger.specs.Whys.{added_by, end_from, end_text, entered_mark, index_line, last_executed, last_outside}
use Rattle.origins.specs.Following.{those_in}
use Rattle.debugger.specs.Whys.{marked_line, place_part}

-- a step, where it is not before a first one
abbrev pub not_before : ℕ → Option ℕ → Option ℕ
not_before first None = None
not_before first (Some t) = if nat_le first t then Some t else None

-- the same of the step after t steps, by its number, which is one more
abbrev pub since_step : ℕ → Option ℕ → Option ℕ
since_step since found = not_before (since - 1) found

-- the mark of a step in an interrupt: the step that entered it, or that this comes before the first one that is told of
abbrev pub entered_since : ℕ → Option ℕ → List ℕ
entered_since since None = if nat_le since 1 then [] else codes " IN STEP BEFORE " ++ decimal since
entered_since since (Some t) = entered_mark (Some t)

abbrev pub mark_since : Scenario → ℕ → ℕ → List ℕ
mark_since scenario since t = if (run scenario t).inside then entered_since since (since_step since (last_outside scenario t)) else []

-- the line of the INDEX that moved the operand of a step, if one did, and where it is to be told
abbrev pub moved_since : SymbolTable → Scenario → ℕ → ℕ → Option ℕ → List ℕ
moved_since symbols scenario since t None = []
moved_since symbols scenario since t (Some sum) = index_line symbols scenario sum (since_step since (last_executed scenario t))

abbrev pub index_since : SymbolTable → Scenario → IndexLines → ℕ → ℕ → List ℕ
index_since symbols scenario Omitted since t = []
index_since symbols scenario Told since t = moved_since symbols scenario since t (added_by (next_step scenario (run scenario t)))

-- the lines of a step
abbrev pub lines_since : SymbolTable → Scenario → LinkLines → ℕ → ℕ → List Spot → List ℕ
lines_since symbols scenario lines since t xs =
    marked_line symbols scenario t (those_in (targets (link_at scenario t)) (cells_among xs)) (mark_since scenario since t)
    ++ place_part scenario lines.places t ++ index_since symbols scenario lines.index since t

-- how it ends where no step from the first one on wrote one of the cells that are left
abbrev pub end_since : SymbolTable → ℕ → List ℕ → List ℕ
end_since symbols since [] = line (codes "ALL")
end_since symbols since (c ∷ cs) =
    if nat_le since 1 then end_text symbols false (c ∷ cs) else line
    (codes "MORE " ++ decimal (length (c ∷ cs)) ++ codes " BEFORE " ++ decimal since)

-- one thing where there is no step, and another of a step
abbrev pub found_or : Option ℕ → List ℕ → (ℕ → List ℕ) → List ℕ
found_or None ending text = ending
found_or (Some t) ending text = text t

-- how what stands at some spots after p steps came to be, by at most k steps, of which none is before the first one
unfoldable pub since_text : SymbolTable → Scenario → LinkLines → ℕ → ℕ → ℕ → List Spot → List ℕ
since_text symbols scenario lines since zero p xs = end_from symbols true xs
since_text symbols scenario lines since (suc k) p xs =
    found_or (since_step since (last_writer scenario xs p)) (end_since symbols since (cells_of (cells_among xs)))
    (λ t. lines_since symbols scenario lines since t xs ++ since_text symbols scenario lines since k t (before_step scenario t xs))

-- what searches for a step find of it: that it writes one of some cells, that no interrupt is served before it
abbrev pub found_if : Bool → Option ℕ
found_if b = if b then Some 0 else None

abbrev pub writer_found : Link → CellSet → Option ℕ
writer_found k cells = found_if (writes_some k cells)

abbrev pub outside_found : State → Option ℕ
outside_found s = found_if (not s.inside)
