use Rattle.std.proofs.Common.{arith}
use Rattle.tasks.proofs.Standings.{first_bytes, few_bytes, long_ends, end_there}
use Rattle.tasks.proofs.text.Text.end.Goals as goal

pub offset_bounds-self-at : goal.offset_bounds-self-at
offset_bounds-self-at c =
    let x = c.args.self.now in
    let b = (first_bytes x.bytes.now x.ends.now x.starts.now x.ending c.args.at c.requires).one in
    let f = few_bytes x.bytes.now x.ends.now x.starts.now x.ending in
    omega arith

pub bounds-self-at : goal.bounds-self-at
bounds-self-at c =
    let x = c.args.self.now in
    let b = (first_bytes x.bytes.now x.ends.now x.starts.now x.ending c.args.at c.requires).one in
    let l = long_ends x.bytes.now x.ends.now x.starts.now x.ending in
    omega arith

pub returns : goal.returns
returns c = end_there c.args.self.now.bytes.now c.args.self.now.ends.now c.args.self.now.starts.now c.args.self.now.ending c.args.at c.requires
