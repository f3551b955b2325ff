use Rattle.notes.proofs.Appending.{eleven_lines}
use Rattle.notes.proofs.lines.lines_of.Goals as goal

pub returns : goal.returns
returns c =
    eleven_lines c.args.notation c.args.heading.now.what.items c.args.heading.now.number c.args.heading.now.cycles c.args.told.now _ _ _ _
    _ _ _ _ _ _ _ _ c.new-lines.ensures
    c.push_line.ensures.items c.push_line-2.ensures.items c.push_line-3.ensures.items c.push_line-4.ensures.items
    c.push_line-5.ensures.items
    c.push_line-6.ensures.items c.push_line-7.ensures.items c.push_line-8.ensures.items c.push_line-9.ensures.items
    c.push_line-10.ensures.items c.push_line-11.ensures.items
