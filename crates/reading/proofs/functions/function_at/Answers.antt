use Rattle.std.proofs.Common.{arith}
use Rattle.reading.proofs.Places.{placed, function_is}
use Rattle.reading.proofs.functions.function_at.Goals as goal

pub bounds-ends-start : goal.bounds-ends-start
bounds-ends-start c = let x = placed c.args.bytes.now c.args.ends.now c.args.starts.now c.args.f c.requires.read in omega arith

pub bounds-bytes-start : goal.bounds-bytes-start
bounds-bytes-start c = let x = placed c.args.bytes.now c.args.ends.now c.args.starts.now c.args.f c.requires.read in omega arith

pub slice_bounds-result-count : goal.slice_bounds-result-count
slice_bounds-result-count c = (placed c.args.bytes.now c.args.ends.now c.args.starts.now c.args.f c.requires.read).forward

pub slice_bounds-result-start : goal.slice_bounds-result-start
slice_bounds-result-start c = (placed c.args.bytes.now c.args.ends.now c.args.starts.now c.args.f c.requires.read).forward

pub slice_bounds-result-end : goal.slice_bounds-result-end
slice_bounds-result-end c = (placed c.args.bytes.now c.args.ends.now c.args.starts.now c.args.f c.requires.read).ends_in

pub returns : goal.returns
returns c p n g h e = function_is c.args.bytes.now c.args.ends.now c.args.starts.now p n c.args.f g h e
