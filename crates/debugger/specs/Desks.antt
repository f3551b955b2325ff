-- What the desk of a session is, and what its calls leave of it.
use Rattle.std.specs.Prelude.{◌≡◌, ℕ, ◌+◌, ◌*◌, ◌≤◌}
use Rattle.replay.specs.declared.keeper.Keeper.{Ghosts}
use Rattle.debugger.specs.Terms.{Terms}
use Rattle.debugger.specs.Replies.{Desk as Standing}
use Rattle.debugger.specs.Executions.{desk, HasLooked, HasDone}
use Rattle.debugger.specs.declared.desk.Desk.{Desk}

module _ {K : Type 0} {g : Ghosts K} where
  -- where a desk stands, with no answer to come
  abbrev pub standing : Desk K g → Standing
  standing d = desk d.session.now d.position d.breakpoints d.quiet

  -- what its replies are told by
  abbrev pub terms : Desk K g → Terms
  terms d = record { symbols = d.symbols.now; source = d.rows.now; first = d.first_added }

  -- what every call leaves: what replies are told by, and the session that is lent
  pub record IsSame (old new : Desk K g) : Type 0 where
    pub lent : new.session.ghost_name ≡ old.session.ghost_name
    pub symbols : new.symbols.now ≡ old.symbols.now
    pub rows : new.rows.now ≡ old.rows.now
    pub first : new.first_added ≡ old.first_added

  -- what a call leaves that does nothing to the session
  pub record Keeps (old new : Desk K g) : Type 0 where
    pub session : new.session.now ≡ old.session.now
    pub same : IsSame old new

  -- what a look at earlier steps leaves: all but the session, of which so many steps are executed at most
  pub record Looks (most : ℕ) (old new : Desk K g) : Type 0 where
    pub session : HasLooked old.session.now new.session.now most
    pub position : new.position ≡ old.position
    pub breakpoints : new.breakpoints ≡ old.breakpoints
    pub quiet : new.quiet ≡ old.quiet
    pub same : IsSame old new

  -- what a look leaves that moves the position
  pub record Moves (most : ℕ) (old new : Desk K g) : Type 0 where
    pub session : HasLooked old.session.now new.session.now most
    pub same : IsSame old new

  -- what new steps leave, and a look at them: that many are executed for each
  pub record HasGrown (most : ℕ) (old new : Desk K g) : Type 0 where
    pub forward : old.session.now.n ≤ new.session.now.n
    pub spends : new.session.now.meter + 2 * old.session.now.n ≤ old.session.now.meter + most * new.session.now.n
    pub same : IsSame old new

  -- what a command leaves that executes so many times the steps that there are
  pub record HasServed (effort : ℕ) (old new : Desk K g) : Type 0 where
    pub session : HasDone effort old.session.now new.session.now
    pub same : IsSame old new
