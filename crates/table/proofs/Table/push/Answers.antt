use Rattle.std.proofs.Common.{◌≡◌, ℕ, ◌+◌, ◌%◌, ◌^◌, set, sym, ap, ◌∙◌, subst, rules, arith}
use Rattle.table.specs.declared.row.Row.{Row}
use Rattle.table.specs.Index.{Chained, bucket_of}
use Rattle.table.proofs.Index.{chained_push}
use Rattle.table.proofs.Table.push.Goals as goal

pub returns-clause-chained : goal.returns-clause-chained
returns-clause-chained c few =
    let t = c.args.self.now in
    let b = c.chain-b.result in
    let word : t.count + 1 ≡ (t.count + 1) % 2 ^ 32 = omega arith in
    record {
      room = search rules;
      chained = subst (λ (w : ℕ). Chained c.put.new.rows (set t.heads.now b w) t.chains (t.count + 1)) word (chained_push t.rows.now c.put.new.rows t.heads.now t.chains t.count b c.requires.chained.chained c.chain-b.ensures.below c.put.ensures.others (ap (λ (r : Row). bucket_of r.edge t.chains) c.put.ensures.new ∙ sym c.chain-b.ensures.is) c.put.ensures.link);
    }
