-- What kept a program from a place, worked out by hand.
use Rattle.std.proofs.Common.{◌≡◌, true, false, ◌++◌, None, Some, refl, ◌∙◌}
use Rattle.std.specs.Prelude.{codes}
use Rattle.std.specs.Fmt.{digits}
use Rattle.std.specs.FinSet as set
use Rattle.std.specs.Cmp.{nat_cmp_total}
use Rattle.std.specs.Ordering.{nat_cmp}
use Rattle.cpu.specs.State.{State, start}
use Rattle.debugger.specs.Nevers.{came_text, kept_away, later}

-- the second step, where it is later
chosen : later None None ≡ None
chosen = refl

first_alone : later (Some 5) None ≡ None
first_alone = refl

after : later (Some 5) (Some 6) ≡ Some 6
after = refl

before : later (Some 5) (Some 4) ≡ None
before = refl

second_alone : later None (Some 4) ≡ Some 4
second_alone = refl

-- the step that came there last is told by its number
comings : came_text (Some 6) ++ came_text None ≡ codes "CAME 7\n"
unfolding digits
comings = refl

-- at the start interrupts are inhibited, and none is asked for; and where interrupt 3 is
abbrev asked : State
asked = record start { requests = set.insert set.empty 3 }

three_asked : set.contains (set.insert (set.empty {R = nat_cmp}) 3) 3 ≡ true
three_asked = set.contains-insert nat_cmp_total set.empty 3 3

ten_not_asked : set.contains (set.insert (set.empty {R = nat_cmp}) 3) 10 ≡ false
ten_not_asked = set.contains-insert nat_cmp_total set.empty 3 10 ∙ set.contains-empty nat_cmp 10

none_asked : kept_away None start (Some 3) ≡ codes "INTERRUPT 3 NOT ASKED\n"
unfolding start digits
none_asked = rw (set.contains-empty nat_cmp 3) refl

inhibited : kept_away None asked (Some 3) ++ kept_away (Some 6) asked (Some 3) ≡ codes "INTERRUPT 3 INHIBITED\nINTERRUPT 3 INHIBITED\n"
unfolding start digits
inhibited = rw three_asked refl

another : kept_away None asked (Some 10) ≡ codes "INTERRUPT 10 NOT ASKED\n"
unfolding start digits
another = rw ten_not_asked refl

served : kept_away None (record asked { inside = true }) (Some 3) ≡ codes "INTERRUPT 3 INSIDE\n"
unfolding start digits
served = rw three_asked refl

free : kept_away None (record asked { inhibit = false }) (Some 3) ≡ codes "INTERRUPT 3 ASKED\n"
unfolding start digits
free = rw three_asked refl

-- no entry leads there: that no choice led away is told where no step came there
nothing : kept_away None start None ++ kept_away (Some 6) start None ≡ codes "NO CHOICE LED AWAY\n"
nothing = refl
