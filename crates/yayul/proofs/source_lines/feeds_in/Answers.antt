use Rattle.std.proofs.Common.{arith, eqb}
use Rattle.std.proofs.lemmas.Simd.{zip2_splat}
use Rattle.yayul.proofs.Vectors.{hit, masked}
use Rattle.yayul.proofs.source_lines.feeds_in.Goals as goal

pub returns : goal.returns
returns c =
    let v = c.args.bytes in
    let long = c.fits-bytes.0 in
    masked (λ x. eqb x 10) v _ (omega arith) (zip2_splat hit v 16 10 long)
