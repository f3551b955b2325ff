use Rattle.diagnostics.proofs.Merging.{five_appended}
use Rattle.diagnostics.proofs.objects.push_file_object.Goals as goal

pub returns : goal.returns
returns c =
    five_appended c.args.out.now.items _ _ _ _ _ _ _ _ _ _ c.in_ok-extend_from_slice.ensures.items c.in_ok-push_string.ensures
    c.in_ok-extend_from_slice-2.ensures.items
    c.in_ok-push_string-2.ensures c.in_ok-extend_from_slice-3.ensures.items
