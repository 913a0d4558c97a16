-- The first bytes of what stands there are known, since an expression does.
use Rattle.std.proofs.Common.{◌≡◌, ℕ, ◌-◌, ◌≤◌, length, get_or, arith}
use Rattle.reading.proofs.Heading.{Starting, bytes2, bytes3}
use Rattle.tasks.specs.declared.text.Text.{Text}
use Rattle.tasks.specs.Texts.{Standing}
use Rattle.tasks.proofs.Standings.{first_bytes, few_bytes}
use Rattle.tasks.proofs.text.Text.head.Goals as goal

begins : (x : Text) (at : ℕ) → Standing x.bytes.now at → Starting (get_or x.bytes.now at 0) (length x.bytes.now - at)
begins x at h = first_bytes x.bytes.now x.ends.now x.starts.now x.ending at h

few : (x : Text) → length x.bytes.now ≤ 4096
few x = few_bytes x.bytes.now x.ends.now x.starts.now x.ending

pub bounds-self-at : goal.bounds-self-at
bounds-self-at c = let b = begins c.args.self.now c.args.at c.requires in let f = few c.args.self.now in omega (arith, b.one)

pub overflow_add-result : goal.overflow_add-result
overflow_add-result c = let b = begins c.args.self.now c.args.at c.requires in let f = few c.args.self.now in let t = b.var_two c.in-0.is in omega arith

pub bounds-self-at-in-0 : goal.bounds-self-at-in-0
bounds-self-at-in-0 c = let b = begins c.args.self.now c.args.at c.requires in let f = few c.args.self.now in let t = b.var_two c.in-0.is in omega arith

pub bounds-self-at-in-3 : goal.bounds-self-at-in-3
bounds-self-at-in-3 c = let b = begins c.args.self.now c.args.at c.requires in let f = few c.args.self.now in let t = b.parts_two c.in-3.is in omega arith

pub bounds-self-at-in_default : goal.bounds-self-at-in_default
bounds-self-at-in_default c = let b = begins c.args.self.now c.args.at c.requires in let f = few c.args.self.now in let e : get_or c.args.self.now.bytes.now c.args.at 0 ≡ 5 = (let k = b.known in grind arith) in let t = b.call_three e in omega arith

pub bounds-self-at-in_default-2 : goal.bounds-self-at-in_default-2
bounds-self-at-in_default-2 c = let b = begins c.args.self.now c.args.at c.requires in let f = few c.args.self.now in let e : get_or c.args.self.now.bytes.now c.args.at 0 ≡ 5 = (let k = b.known in grind arith) in let t = b.call_three e in omega arith

pub returns-in-0 : goal.returns-in-0
returns-in-0 c = let b = begins c.args.self.now c.args.at c.requires in let f = few c.args.self.now in let t = b.var_two c.in-0.is in (omega arith, bytes2 c.args.self.now.bytes.now c.args.at 0 (omega arith) c.in-0.is)

pub returns-in-3 : goal.returns-in-3
returns-in-3 c = let b = begins c.args.self.now c.args.at c.requires in let f = few c.args.self.now in let t = b.parts_two c.in-3.is in (omega arith, bytes2 c.args.self.now.bytes.now c.args.at 3 (omega arith) c.in-3.is)

pub returns-in_default : goal.returns-in_default
returns-in_default c = let b = begins c.args.self.now c.args.at c.requires in let f = few c.args.self.now in let e : get_or c.args.self.now.bytes.now c.args.at 0 ≡ 5 = (let k = b.known in grind arith) in let t = b.call_three e in (omega arith, bytes3 c.args.self.now.bytes.now c.args.at 5 (omega arith) e)
