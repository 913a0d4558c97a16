use Rattle.std.proofs.Common.{◌<◌, length, arith, rules}
use Rattle.callgraph.proofs.Standing.{reads_below, reads_end}
use Rattle.callgraph.proofs.expressions.end_of.Goals as goal

pub bounds-script-at : goal.bounds-script-at
bounds-script-at c = omega (arith, reads_below c.args.script.now.bytes.now c.args.at c.requires)

pub offset_bounds-script-at : goal.offset_bounds-script-at
offset_bounds-script-at c = let l : c.args.at < length c.args.script.now.bytes.now = reads_below c.args.script.now.bytes.now c.args.at c.requires in search rules

pub returns-clause-forward : goal.returns-clause-forward
returns-clause-forward c = (reads_end c.args.script.now.bytes.now c.args.script.now.ends.now c.args.script.now.ending c.args.at c.requires).forward

pub returns-clause-within : goal.returns-clause-within
returns-clause-within c = (reads_end c.args.script.now.bytes.now c.args.script.now.ends.now c.args.script.now.ending c.args.at c.requires).within
