use Rattle.std.proofs.Common.{length, arith}
use Rattle.ends.proofs.Posts.{enough}
use Rattle.ends.proofs.Answers.{many_nodes, few_words, go_post}
use Rattle.ends.proofs.go_call.go.Goals as goal

pub returns-then-args-limits-ge-NUMBERS : goal.returns-then-args-limits-ge-NUMBERS
returns-then-args-limits-ge-NUMBERS c = many_nodes c.args.program.now c.args.limits.ways c.args.function c.args.args.now c.args.limits.depth c.args.limits.room c.args.out.now (length c.args.work.now) (omega arith)

pub returns-then-work-words : goal.returns-then-work-words
returns-then-work-words c = few_words c.args.program.now c.args.limits.ways c.args.function c.args.args.now c.args.limits.depth c.args.limits.room c.args.out.now (length c.args.work.now) c.words.result c.words.ensures c.if-work-words.true

pub returns : goal.returns
returns c = go_post c.args.program.now c.args.limits.ways c.args.function c.args.args.now c.args.limits.depth c.args.limits.room c.args.out.now (length c.args.work.now) _ _ c.go_within.ensures.not_small (enough (length c.args.work.now) _ c.words.result c.words.ensures c.if-work-words.false (omega arith)) (omega arith) c.go_within.ensures.says
