use mathlib.Core.Path.{◌≡◌, ap, ◌∙◌}
use mathlib.Core.Bool.{true}
use mathlib.Core.List.{List}
use Prim.Native.Nat.{ℕ, ◌-◌, ◌*◌, ◌/◌, ◌≤◌}
use native.Mathlib.Omega.{arith}
use borrow.Author.Rules.{rules}
use Rattle.record.specs.Record as Record
use Rattle.record.specs.Codec.{session_of, accepted_of}
use Rattle.record.proofs.Accepted.{whole}
use Rattle.record.proofs.RoundTrip.{session_lawful}
use Rattle.record_edits.proofs.Moves.{copied_down}
use Rattle.record_edits.proofs.Edits.{pop_held}
use Rattle.record_edits.proofs.SessionRecord.pop_front.Goals as goal

-- at most 63 are left
few : (b : List ℕ) {waiting left : ℕ} → accepted_of b ≡ true → waiting ≡ (session_of b).queue.waiting → left ≡ waiting - 1 → left ≤ 63
few b ok is less = omega (arith, less, is, (session_lawful b ok).waiting)

pub copy_within-requires-2-clause-in_bounds : goal.copy_within-requires-2-clause-in_bounds
copy_within-requires-2-clause-in_bounds c =
    omega (arith, whole _ c.args.self.now.accepted, few _ c.args.self.now.accepted c.waiting_at-waiting.ensures c.saturating_sub-left.ensures)

pub copy_within-requires-2-clause-dest_in_bounds : goal.copy_within-requires-2-clause-dest_in_bounds
copy_within-requires-2-clause-dest_in_bounds c =
    omega (arith, whole _ c.args.self.now.accepted, few _ c.args.self.now.accepted c.waiting_at-waiting.ensures c.saturating_sub-left.ensures)

pub put-requires-4 : goal.put-requires-4
put-requires-4 c = omega (arith, whole _ c.args.self.now.accepted, few _ c.args.self.now.accepted c.waiting_at-waiting.ensures c.saturating_sub-left.ensures)

pub invariant_of-self : goal.invariant_of-self
invariant_of-self c = let n = c.saturating_sub-left.result in
    let long = whole _ c.args.self.now.accepted in
    let left = few _ c.args.self.now.accepted c.waiting_at-waiting.ensures c.saturating_sub-left.ensures in
    let vectors = c.copy_within.ensures.after ∙ copied_down c.put.new.b Record.VECTORS 1 n _ (omega arith) (omega arith) in
    let codes = c.copy_within-2.ensures.after ∙ copied_down c.put-3.new.b Record.CODES 4 (n * 4) _ (omega arith) (omega arith) in
    let h = pop_held c.args.self.now (rw c.waiting_at-waiting.ensures at c.saturating_sub-left.ensures) (ap (λ (x : ℕ). x / 2) c.coded_at-coded.ensures)
    c.put.ensures.b_after (rw vectors at c.put-2.ensures.b_after) c.put-3.ensures.b_after (rw codes at c.put-4.ensures.b_after) in
    record { accepted = h.accepted; below = h.below }

pub returns : goal.returns
returns c = let n = c.saturating_sub-left.result in
    let long = whole _ c.args.self.now.accepted in
    let left = few _ c.args.self.now.accepted c.waiting_at-waiting.ensures c.saturating_sub-left.ensures in
    let vectors = c.copy_within.ensures.after ∙ copied_down c.put.new.b Record.VECTORS 1 n _ (omega arith) (omega arith) in
    let codes = c.copy_within-2.ensures.after ∙ copied_down c.put-3.new.b Record.CODES 4 (n * 4) _ (omega arith) (omega arith) in
    let h = pop_held c.args.self.now (rw c.waiting_at-waiting.ensures at c.saturating_sub-left.ensures) (ap (λ (x : ℕ). x / 2) c.coded_at-coded.ensures)
    c.put.ensures.b_after (rw vectors at c.put-2.ensures.b_after) c.put-3.ensures.b_after (rw codes at c.put-4.ensures.b_after) in
    record { holds = h.session; same_reference = search rules }
