use Rattle.std.proofs.Common.{arith}
use Rattle.lines.proofs.LineBufferAdding.{adds_none, adds_fits, adds_over, fits_of}
use Rattle.lines.proofs.line_buffer.LineBuffer.add.Goals as goal

pub returns-then-self-clause-line : goal.returns-then-self-clause-line
returns-then-self-clause-line c = adds_none c.self.inside.is_too_long c.self.inside.bytes.items c.args.bytes.now c.args.self.now c.self.view_is c.if-self.true

pub returns-then-bytes-len-clause-line : goal.returns-then-bytes-len-clause-line
returns-then-bytes-len-clause-line c =
    let fits = fits_of c.self.inside.is_too_long c.self.inside.bytes.items c.args.self.now c.self.view_is c.if-self.false c.requires in
    adds_fits c.self.inside.is_too_long c.extend_from_slice.result c.self.inside.bytes.items c.args.bytes.now c.extend_from_slice.new.self.items c.args.self.now c.self.view_is c.if-self.false
    (omega (arith, c.if-bytes-len.true, c.len.ensures, fits, c.self.inside.bytes.ok.0))
    (c.extend_from_slice.ensures.succeeds (omega (arith, c.if-bytes-len.true, c.len.ensures, c.self.invariant.room, fits, c.self.inside.bytes.ok.0)))
    c.extend_from_slice.ensures.items

pub returns-else-bytes-len-clause-line : goal.returns-else-bytes-len-clause-line
returns-else-bytes-len-clause-line c =
    let fits = fits_of c.self.inside.is_too_long c.self.inside.bytes.items c.args.self.now c.self.view_is c.if-self.false c.requires in
    adds_over c.self.inside.is_too_long c.self.inside.bytes.items c.args.bytes.now c.args.self.now c.self.view_is c.if-self.false fits
    (omega (arith, c.if-bytes-len.false, c.len.ensures, fits, c.self.inside.bytes.ok.0))
