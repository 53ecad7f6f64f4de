-- A report is refused exactly where the reference's rules say, and what its words say is what the reference reads. Assumes nothing.
use Prim.Native.Nat.{ℕ, ◌+◌, ◌-◌, ◌/◌, ◌%◌, ◌^◌, ◌<◌, ◌≤◌}
use mathlib.Core.Path.{◌≡◌, refl, sym, ap, ◌∙◌, subst}
use mathlib.Core.Bool.{Bool, true, false, cond, not, ◌&&◌, ◌||◌, and-true, and-false}
use mathlib.Core.List.{List, [], ◌∷◌}
use mathlib.Core.Logic.{◌⊎◌, ◌≢◌}
use native.Mathlib.Decide.{ℕ_discrete}
use native.Mathlib.Omega.{arith}
use lib.Bits.{bit_and}
use lib.Dec.{T, eqb, leb, ltb, eqb→eq}
use lib.ListN.{get_or}
use borrow.Author.Tests.{eqb-true, eqb-false, ltb-true, ltb-false, eq-eqb, le-leb, lt-leb}
use Rattle.bits.specs.Words.{bit, flag}
use Rattle.bits.proofs.AllBelow.{at}
use Rattle.bits.proofs.BitLaws.{is_flag, bit-and, same_bits}
use Rattle.bits.proofs.WordLaws.{is_true}
use Rattle.bits.specs.Refuses.{Rule, by, or_else, Refuses}
use Rattle.bits.proofs.Tells.{Tells, tells_eq, tells_leb, tells_ltb, tells_on, tells_off, tells_clear, tells_and, tells_or, tells_not, tells_as, tells_is, Rung, rung, number_on, rules_of, ladder, ladder_then}
use Rattle.regs.specs.Registers.{list_of}
use Rattle.definitions.specs.Interruption.{type_number, type_numbered, type_of}
use Rattle.vmcs.specs.Efer.{is_long_mode, lacks_ia32e, update_efer}
use Rattle.vmcs.specs.Field.{value_of}
use Rattle.vmcs.specs.Names.VmcsControl32 as VmcsControl32
use Rattle.vmcs.specs.Efer.{EferUpdate}
use Rattle.vmcs.specs.declared.controls.Pair.{Pair}
use Rattle.vcpu_session.specs.Session.{Lawful}
use Rattle.vcpu_session.specs.declared.Xcr0.{Xcr0}
use Rattle.vcpu_session.specs.declared.Session.{Session}
use Rattle.vcpu_session.proofs.LawfulLaws.{of_lawful}
use Rattle.vcpu_exit.specs.Reading.{is_apic, register_of, moved_value, is_move_to, turns_paging_on, advance_to, advance_of, past_end}
use Rattle.vcpu_exit.specs.Refusal.{unknown_reason, owned_bits_differ, no_interrupt, other_access, other_xcr, refused_xcr0, efer_refusal, entry_pair, reason_refusal, exit_refusal, report_refusal}
use Rattle.vcpu_exit.specs.Xcr0.{digit, xcr0_allowed}
use Rattle.vcpu_exit.specs.declared.Report.{Report}
use Rattle.vcpu_report.specs.ExitReport.{phase_after, xcr0_after}
use Rattle.calls.specs.Reference.{choose, both, either, basic_reason, ecx_of, edx_eax, NamesApic, names_apic, awaits_value, Agree, MovToCr, mov_source, advance, UnknownReason, Xcr0Allowed, SetsIa32e, exit_rules, report_rules}
use Rattle.calls.specs.Calls.{words_of}
use Rattle.calls.proofs.Choices.{chosen, choose_ap}
use Rattle.calls.proofs.SetupNumbers.{within_tells}

-- ---- tests that tell

-- a test and a decision of one thing choose alike
pub picks : {A C : Type 0} {t : Bool} → Tells t C → (d : Dec C) (x y : A) → cond t x y ≡ choose d x y
picks {t = t} p d x y = chosen d t x y p.yes_so p.not_so

-- ---- what the words say

apic_tells : (r : Report) → Tells (is_apic r.regs.rcx) (NamesApic r)
unfolding is_apic
apic_tells r = tells_and (tells_leb 0x800 (ecx_of r)) (tells_leb (ecx_of r) 0x8FF)

pub phase_agrees : (r : Report) → phase_after r ≡ choose (awaits_value r) 3 1
unfolding phase_after
phase_agrees r = join (eqb (basic_reason r) 31) (is_apic r.regs.rcx) ∙ picks (tells_and (tells_eq (basic_reason r) 31) (apic_tells r)) (awaits_value r) 3 1
  where
    join : (a b : Bool) → cond {A = ℕ} a (cond b 3 1) 1 ≡ cond (a && b) 3 1
    join true b = refl
    join false b = refl

pub xcr0_agrees : (x : Xcr0) (r : Report) → (xcr0_after x r).value ≡ choose (ℕ_discrete (basic_reason r) 55) (edx_eax r) x.value
unfolding xcr0_after
xcr0_agrees x r =
    let d = ℕ_discrete (basic_reason r) 55 in
    ap (λ (y : Xcr0). y.value) (picks (tells_eq (basic_reason r) 55) d _ x) ∙ choose_ap (λ (y : Xcr0). y.value) d _ x

pub move_tells : (r : Report) (n : ℕ) → Tells (is_move_to r n) (MovToCr n r)
unfolding is_move_to
move_tells r n = tells_and (tells_eq (r.qualification / 2 ^ 4 % 4) 0) (tells_eq (r.qualification % 2 ^ 4) n)

pub moved_agrees : (r : Report) → moved_value r ≡ mov_source r
unfolding moved_value register_of
moved_agrees r =
    let i = r.qualification / 2 ^ 8 % 2 ^ 4 in
    picks (tells_eq i 4) (ℕ_discrete i 4) r.rsp (get_or (list_of r.regs) i 0)

advance_agrees : (r : Report) → advance_of r ≡ advance r
unfolding advance_to
advance_agrees r =
    let n = basic_reason r in
    let msr = both (either (ℕ_discrete n 31) (ℕ_discrete n 32)) (names_apic r) in
    let length = r.length % 2 ^ 8 in
    ap (λ (x : ℕ). cond (eqb n 10) 2 (cond (eqb n 28) 3 (cond (eqb n 18 || eqb n 30) length (cond ((eqb n 31 || eqb n 32) && is_apic r.regs.rcx) 2 x))))
    (picks (tells_eq n 55) (ℕ_discrete n 55) 3 0)
    ∙ ap (λ (x : ℕ). cond (eqb n 10) 2 (cond (eqb n 28) 3 (cond (eqb n 18 || eqb n 30) length x)))
    (picks (tells_and (tells_or (tells_eq n 31) (tells_eq n 32)) (apic_tells r)) msr 2 _)
    ∙ ap (λ (x : ℕ). cond (eqb n 10) 2 (cond (eqb n 28) 3 x)) (picks (tells_or (tells_eq n 18) (tells_eq n 30)) (either (ℕ_discrete n 18) (ℕ_discrete n 30)) length _)
    ∙ ap (λ (x : ℕ). cond (eqb n 10) 2 x) (picks (tells_eq n 28) (ℕ_discrete n 28) 3 _)
    ∙ picks (tells_eq n 10) (ℕ_discrete n 10) 2 _

-- ---- 14

unknown_tells : (r : Report) → Tells (unknown_reason r) (UnknownReason r)
unfolding unknown_reason
unknown_tells r =
    let n = basic_reason r in
    let f = bit 31 r.reason in
    tells_is
    (rw (within n) (joined (ltb 64 n) (eqb n 35) (eqb n 38) (eqb n 42) f (eqb n 33) (eqb n 34) (eqb n 41)))
    (tells_or (tells_ltb 64 n) (tells_or (tells_eq n 35) (tells_or (tells_eq n 38) (tells_or (tells_eq n 42)
    (tells_as (tells_and (tells_on f) (tells_and (tells_not (tells_eq n 33)) (tells_and (tells_not (tells_eq n 34)) (tells_not (tells_eq n 41)))))
    (λ x. (x.0, x.1.0, x.1.1.0, x.1.1.1)) (λ x. (x.0, (x.1, (x.2, x.3)))))))))
  where
    within : (n : ℕ) → leb n 64 ≡ not (ltb 64 n)
    within n = go (ltb 64 n) refl
      where
        go : (t : Bool) → ltb 64 n ≡ t → leb n 64 ≡ not t
        go true e = lt-leb n 64 (ltb-true 64 n e)
        go false e = le-leb n 64 (ltb-false 64 n e)

    joined : (a b c d f x y z : Bool)
        → (not (not a && not b && not c && not d) || (f && not (x || y || z))) ≡ (a || (b || (c || (d || (f && (not x && (not y && not z)))))))
    joined true b c d f x y z = refl
    joined false true c d f x y z = refl
    joined false false true d f x y z = refl
    joined false false false true f x y z = refl
    joined false false false false false x y z = refl
    joined false false false false true true y z = refl
    joined false false false false true false true z = refl
    joined false false false false true false false z = refl

-- ---- 15

-- a word under a mask
under : (i a mask : ℕ) → T (bit i mask) → bit i (bit_and a mask) ≡ bit i a
under i a mask t = bit-and i a mask ∙ ap (λ (b : Bool). bit i a && b) (is_true _ t) ∙ and-true (bit i a)

agree_tells : (mask a b : ℕ) → Tells (eqb (bit_and a mask) (bit_and b mask)) (Agree mask a b)
agree_tells mask a b =
    tells_as (tells_eq (bit_and a mask) (bit_and b mask)) (λ e i t. sym (under i a mask t) ∙ ap (bit i) e ∙ under i b mask t)
    (λ h. same_bits (bit_and a mask) (bit_and b mask) (λ i. bit-and i a mask ∙ go i (bit i mask) refl (h i) ∙ sym (bit-and i b mask)))
  where
    go : (i : ℕ) (t : Bool) → bit i mask ≡ t → (T (bit i mask) → bit i a ≡ bit i b) → (bit i a && t) ≡ (bit i b && t)
    go i true e h = ap (λ (x : Bool). x && true) (h (rw e tt))
    go i false e h = and-false (bit i a) ∙ sym (and-false (bit i b))

differ_tells : (s : Session) (r : Report)
    → Tells (owned_bits_differ s.vmcs r) (Agree (words_of s).cr0mask r.cr0 (words_of s).cr0 × Agree (words_of s).cr4mask r.cr4 (words_of s).cr4 → ⊥)
unfolding owned_bits_differ
differ_tells s r =
    let g = words_of s in
    tells_is (joined (eqb (bit_and r.cr0 g.cr0mask) (bit_and g.cr0 g.cr0mask)) (eqb (bit_and r.cr4 g.cr4mask) (bit_and g.cr4 g.cr4mask)))
    (tells_not (tells_and (agree_tells g.cr0mask r.cr0 g.cr0) (agree_tells g.cr4mask r.cr4 g.cr4)))
  where
    joined : (a b : Bool) → (not a || not b) ≡ not (a && b)
    joined true b = refl
    joined false b = refl

-- ---- 16, 18, 20

type_number_lem : (n : ℕ) → n < 8 → type_number (type_numbered n) ≡ n
unfolding type_number
type_number_lem n h = eqb→eq _ _ (at (λ (k : ℕ). eqb (type_number (type_numbered k)) k) 8 tt n h)

interrupt_tells : (r : Report) → Tells (no_interrupt r) ((basic_reason r ≡ 1) × ((bit 31 r.interruption ≡ false) ⊎ (r.interruption / 2 ^ 8 % 8 ≡ 1)))
unfolding no_interrupt type_of
interrupt_tells r =
    let k = r.interruption / 2 ^ 8 % 8 in
    tells_and (tells_eq (basic_reason r) 1)
    (tells_or (tells_off (bit 31 r.interruption)) (tells_is (ap (λ (n : ℕ). eqb n 1) (type_number_lem k (omega arith))) (tells_eq k 1)))

pub access_tells : (r : Report) → Tells (other_access r) ((basic_reason r ≡ 28) × (MovToCr 0 r ⊎ MovToCr 4 r → ⊥))
unfolding other_access
access_tells r = tells_and (tells_eq (basic_reason r) 28) (tells_not (tells_or (move_tells r 0) (move_tells r 4)))

xcr_tells : (r : Report) → Tells (other_xcr r) ((basic_reason r ≡ 55) × (ecx_of r ≢ 0))
unfolding other_xcr
xcr_tells r = tells_and (tells_eq (basic_reason r) 55) (tells_not (tells_eq (ecx_of r) 0))

-- ---- 19

-- two bits are equal where their digits are, and one comes with another where its digit is at most the other's
equal_tells : (i j a : ℕ) → Tells (eqb (digit i a) (digit j a)) (bit i a ≡ bit j a)
equal_tells i j a = tells_as (tells_eq (digit i a) (digit j a)) (ap (λ (d : ℕ). eqb d 1)) (λ e. is_flag (digit i a) (omega arith) ∙ ap flag e ∙ sym (is_flag (digit j a) (omega arith)))

with_tells : (i j a : ℕ) → Tells (leb (digit i a) (digit j a)) (bit i a ≡ true → bit j a ≡ true)
with_tells i j a =
    tells_as (tells_leb (digit i a) (digit j a))
    (λ h e. eq-eqb (digit j a) 1 (let z = eqb-true (digit i a) 1 e in omega arith))
    (λ f. go (bit i a) refl f)
  where
    go : (t : Bool) → bit i a ≡ t → (bit i a ≡ true → bit j a ≡ true) → digit i a ≤ digit j a
    go true e f = let z = eqb-true (digit j a) 1 (f e) in omega arith
    go false e f = let z = eqb-false (digit i a) 1 e in omega arith

-- the core's test is the rule as the request has it, for all numbers
pub allowed_tells : (supported value : ℕ) → Tells (xcr0_allowed supported value) (Xcr0Allowed supported value)
unfolding xcr0_allowed
allowed_tells supported value =
    tells_as
    (tells_and (tells_and (tells_and (tells_and (tells_and (tells_and (tells_and (tells_on (bit 0 value)) (with_tells 2 1 value)) (equal_tells 3 4 value)) (equal_tells 5 6 value))
    (equal_tells 6 7 value)) (with_tells 5 2 value)) (equal_tells 17 18 value)) (within_tells value supported))
    (λ x. record {
      x87 = x.0.0.0.0.0.0.0;
      avx = x.0.0.0.0.0.0.1;
      mpx = x.0.0.0.0.0.1;
      avx512 = (x.0.0.0.0.1, x.0.0.0.1);
      avx512_avx = x.0.0.1;
      amx = x.0.1;
      within = x.1;
    })
    (λ a. (((((((a.x87, a.avx), a.mpx), a.avx512.0), a.avx512.1), a.avx512_avx), a.amx), a.within))

xcr0_tells : (supported : ℕ) (r : Report) → Tells (refused_xcr0 supported r) ((basic_reason r ≡ 55) × (Xcr0Allowed supported (edx_eax r) → ⊥))
unfolding refused_xcr0
xcr0_tells supported r = tells_and (tells_eq (basic_reason r) 55) (tells_not (allowed_tells supported (edx_eax r)))

-- ---- 17, 8

end_tells : (r : Report) → Tells (past_end r) (2 ^ 64 ≤ r.rip + advance r)
unfolding past_end
end_tells r = tells_as (tells_is (ap (λ (n : ℕ). ltb (2 ^ 64 - 1) (r.rip + n)) (advance_agrees r)) (tells_ltb (2 ^ 64 - 1) (r.rip + advance r))) (λ h. h)
    (λ h. h)

pub clear_tells : (a : ℕ) → Tells (lacks_ia32e a) (bit 9 a ≡ false)
unfolding lacks_ia32e
clear_tells a = tells_clear (a / 2 ^ 9)

pub long_tells : (r : Report) → Tells (is_long_mode r.efer) ((bit 8 r.efer ≡ true) × (bit 10 r.efer ≡ true))
unfolding is_long_mode
long_tells r = tells_and (tells_on (bit 8 r.efer)) (tells_on (bit 10 r.efer))

paging_tells : (r : Report) → Tells (turns_paging_on r) (((basic_reason r ≡ 28) × MovToCr 0 r) × (bit 31 (mov_source r) ≡ true))
unfolding turns_paging_on
paging_tells r =
    tells_and (tells_and (tells_eq (basic_reason r) 28) (move_tells r 0)) (tells_is (ap (bit 31) (moved_agrees r)) (tells_on (bit 31 (mov_source r))))

-- the three tests of 8, joined
abbrev pub stuck : Pair → Report → Bool
stuck pair r = turns_paging_on r && (not (is_long_mode r.efer) && lacks_ia32e pair.allowed1)

pub stuck_tells : (pair : Pair) (r : Report) → Tells (stuck pair r) (SetsIa32e r × (bit 9 pair.allowed1 ≡ false))
stuck_tells pair r =
    tells_as (tells_and (paging_tells r) (tells_and (tells_not (long_tells r)) (clear_tells pair.allowed1)))
    (λ x. ((x.0.0, (x.0.1, x.1.0)), x.1.1)) (λ x. ((x.0.0, x.0.1.0), (x.0.1.1, x.1)))

pub efer_number : (pair : Pair) (entry : ℕ) (r : Report) → efer_refusal pair entry r ≡ cond (stuck pair r) 8 0
unfolding efer_refusal update_efer
efer_number pair entry r = go (turns_paging_on r) (is_long_mode r.efer) (lacks_ia32e pair.allowed1) _ _ _ _ _ _
  where
    go : (a b c : Bool) (u v w x y z : ℕ)
        → cond a (cond {A = EferUpdate} b (record { refusal = 0; efer = u; entry = v })
        (cond c (record { refusal = 8; efer = w; entry = x }) (record { refusal = 0; efer = y; entry = z }))).refusal 0
        ≡ cond {A = ℕ} (a && (not b && c)) 8 0
    go true true c u v w x y z = refl
    go true false true u v w x y z = refl
    go true false false u v w x y z = refl
    go false b c u v w x y z = refl

-- ---- the ladder

module _ (s : Session) (r : Report) (l : Lawful s) where
  abbrev pair : Pair
  pair = entry_pair s.capabilities

  abbrev entry_word : ℕ
  entry_word = value_of s.vmcs VmcsControl32.VMENTRY_CONTROLS

  exit_refuses : Refuses (exit_rules (words_of s) r) (cond (owned_bits_differ s.vmcs r) 15 (exit_refusal pair entry_word s.xcr0.supported r))
  unfolding reason_refusal exit_refusal
  exit_refuses =
      let eight : List Rule = by 8 (SetsIa32e r × (bit 9 pair.allowed1 ≡ false)) ∷ [] in
      let end : List Rule = by 17 (2 ^ 64 ≤ r.rip + advance r) ∷ eight in
      let reason : List Rung
      = rung 16 (interrupt_tells r) ∷ rung 18 (access_tells r) ∷ rung 20 (xcr_tells r) ∷ rung 19 (xcr0_tells s.xcr0.supported r) ∷ rung 21 (tells_eq (basic_reason r) 44) ∷ [] in
      let last = cond (past_end r) 17 (efer_refusal pair entry_word r) in
      ladder (rung 15 (differ_tells s r) ∷ []) (rules_of reason end) (or_else (number_on reason 0) last)
      (ladder_then reason (refl, (refl, (refl, (refl, (refl, tt))))) end last
      (ladder (rung 17 (end_tells r) ∷ []) eight (efer_refusal pair entry_word r)
      (subst (Refuses eight) (sym (efer_number pair entry_word r)) (ladder (rung 8 (stuck_tells pair r) ∷ []) [] 0 refl))))

  pub report_refuses : Refuses (report_rules (words_of s) r) (report_refusal s r)
  unfolding report_refusal
  report_refuses =
      rw (of_lawful s l)
      (ladder (rung 1 (tells_not (tells_eq s.progress.phase 2)) ∷ rung 14 (unknown_tells r) ∷ [])
      (cond (bit 31 r.reason) [] (exit_rules (words_of s) r)) _ (ended (bit 31 r.reason)))
    where
      ended : (f : Bool) → Refuses (cond f [] (exit_rules (words_of s) r)) (cond f 0 (cond (owned_bits_differ s.vmcs r) 15 (exit_refusal pair entry_word s.xcr0.supported r)))
      ended true = refl
      ended false = exit_refuses
