use Rattle.std.proofs.Common.{rules}
use Rattle.table.proofs.Rows.{after, written_row, written_other, rows_push}
use Rattle.table.proofs.put.Goals as goal

pub returns : goal.returns
returns c =
    let xs = c.args.rows.now in
    let k = c.args.k in
    let r = c.args.row in
    let a = c.low.result in
    let b = c.high.result in
    let d = c.low-2.result in
    let e = c.high-2.result in
    let l = c.args.link in
    let ys = after xs k r a b d e l in
    let new = written_row xs k r a b d e l c.requires.room c.low.ensures c.high.ensures c.low-2.ensures c.high-2.ensures in
    let others = written_other xs k r a b d e l c.requires.room in
    record {
      new = new;
      link = search rules;
      others = others;
      pushed = rows_push xs ys k r others new;
    }
