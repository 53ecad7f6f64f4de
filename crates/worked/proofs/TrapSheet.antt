-- The trap sheet of the frames that setup leaves over zeros is the text of specs/TrapSheet.antt: the added intercepts have these runs, and no others. Assumes nothing.
use Prim.Native.Nat.{ℕ, zero, suc, ◌+◌, ◌-◌, ◌/◌, ◌%◌, ◌≤◌}
use native.Mathlib.Decide.{dec_le, dec_lt, ℕ_discrete}
use native.Mathlib.Omega.{arith}
use mathlib.Core.Path.{◌≡◌, refl, sym, ap, ◌∙◌}
use mathlib.Core.Bool.{Bool, true, false, cond, ◌||◌}
use mathlib.Core.Logic.{dite, inl}
use mathlib.Core.List.{List, [], ◌∷◌, flat_map}
use lib.Dec.{eqb}
use lib.ListN.{length, get_or, replicate, length-replicate}
use borrow.Author.Tests.{lt-ltb, le-ltb, le-leb, lt-leb, ne_eqb}
use Rattle.bits.specs.Words.{flag}
use Rattle.bits.proofs.BitLaws.{bit_of_zero}
use Rattle.structs.specs.Bitmap.{bit_at, in_range}
use Rattle.structs.specs.Frames.{in_a, port_index, port_intercept, msr_index, msr_intercept}
use Rattle.structs.specs.Numbers.{IsPort, IsMsr}
use Rattle.structs.specs.declared.Access.{Access}
use Rattle.structs.specs.declared.Access.TheVariants.{Read, Write}
use Rattle.vcpu_setup.specs.Bitmaps.{QEMU_EXIT_PORT, IA32_UMWAIT_CONTROL, X2APIC_MSRS, X2APIC_COUNT, io_bitmap_set, msr_bitmap_set}
use Rattle.vcpu_setup.specs.Added.{Added}
use Rattle.vcpu_setup.proofs.AddedLaws.{added}
use Rattle.text.specs.Hex.{hex_digit}
use Rattle.text.specs.Decimal.{decimal_column}
use Rattle.trap_sheet.specs.Runs.{Run}
use Rattle.trap_sheet.specs.Sheet.{ports, msrs, runs_in, sheet_of}
use Rattle.trap_sheet.specs.Reference.{holding, items_of}
use Rattle.trap_sheet.proofs.RangeLaws.{totals, are_runs, ports_are_runs, msrs_are_runs, only, msr?}
use Rattle.worked.specs.TrapSheet.{zeros, setup_sheet, setup_text}

-- ---- the runs of the added intercepts

abbrev port_runs : List Run
port_runs = record { first = QEMU_EXIT_PORT; last = QEMU_EXIT_PORT } ∷ []

abbrev msr_runs : List Run
msr_runs =
    record { first = IA32_UMWAIT_CONTROL; last = IA32_UMWAIT_CONTROL }
    ∷ record { first = X2APIC_MSRS; last = X2APIC_MSRS + X2APIC_COUNT - 1 }
    ∷ []

held_port : (n : ℕ) → holding n port_runs ≡ flag (eqb n QEMU_EXIT_PORT)
held_port n =
    dite (ℕ_discrete n 0x604) (λ e. rw e)
    (λ d. dite (dec_lt n 0x604)
    (λ l. simp (ne_eqb n 0x604 d, lt-leb 0x604 n l))
    (λ g. simp (ne_eqb n 0x604 d, le-leb 0x604 n (omega arith), lt-leb n 0x604 (omega arith))))

held_msr : (n : ℕ) → holding n msr_runs ≡ flag (in_range X2APIC_MSRS X2APIC_COUNT n || (eqb n IA32_UMWAIT_CONTROL || false))
held_msr n =
    dite (ℕ_discrete n 0xE1) (λ e. rw e)
    (λ d. dite (dec_lt n 0xE1)
    (λ l. simp (ne_eqb n 0xE1 d, lt-leb 0xE1 n l, lt-leb 0x800 n (omega arith)))
    (λ g. dite (dec_lt n 0x800)
    (λ l. simp (ne_eqb n 0xE1 d, le-leb 0xE1 n (omega arith), lt-leb n 0xE1 (omega arith), lt-leb 0x800 n l))
    (λ h. dite (dec_lt n 0x840)
    (λ l. simp (ne_eqb n 0xE1 d, le-leb 0xE1 n (omega arith), lt-leb n 0xE1 (omega arith), le-leb 0x800 n (omega arith), le-leb n 0x83F (omega arith), lt-ltb n 0x840 l))
    (λ l. simp (ne_eqb n 0xE1 d, le-leb 0xE1 n (omega arith), lt-leb n 0xE1 (omega arith), le-leb 0x800 n (omega arith), lt-leb n 0x83F (omega arith), le-ltb n 0x840 (omega arith))))))

module _ (t : ℕ → Bool) where
  ports_found : ((n : ℕ) → t n ≡ eqb n QEMU_EXIT_PORT) → runs_in t ports ≡ port_runs
  ports_found h =
      only IsPort (λ n. dec_le n 0xFFFF) t (runs_in t ports) port_runs (ports_are_runs t)
      (are_runs IsPort t port_runs (λ n w. held_port n ∙ ap flag (sym (h n))) (λ n o. held_port n ∙ ap flag (ne_eqb n 0x604 (λ e. o (omega (arith, e)))))
      (omega arith, omega arith, tt))

  msrs_found : ((n : ℕ) → IsMsr n → t n ≡ (in_range X2APIC_MSRS X2APIC_COUNT n || (eqb n IA32_UMWAIT_CONTROL || false))) → runs_in t msrs ≡ msr_runs
  msrs_found h =
      only IsMsr msr? t (runs_in t msrs) msr_runs (msrs_are_runs t)
      (are_runs IsMsr t msr_runs (λ n w. held_msr n ∙ ap flag (sym (h n w))) (λ n o. held_msr n ∙ above n (past n o)) (omega arith, omega arith, (omega arith, omega arith, tt)))
    where
      past : (n : ℕ) → (IsMsr n → ⊥) → 0x840 ≤ n
      past n o = dite (dec_lt n 0x840) (λ l. absurd (o (inl (omega arith)))) (λ g. omega arith)

      above : (n : ℕ) → 0x840 ≤ n → flag (in_range X2APIC_MSRS X2APIC_COUNT n || (eqb n IA32_UMWAIT_CONTROL || false)) ≡ 0
      above n g = simp (ne_eqb n 0xE1 (λ e. omega (arith, e)), le-leb 0x800 n (omega arith), le-ltb n 0x840 g)

-- ---- frames that trap nothing

no_byte : (n i : ℕ) → ◌≡◌ {A = ℕ} (get_or (replicate n 0) i 0) 0
no_byte zero i = refl
no_byte (suc n) zero = refl
no_byte (suc n) (suc i) = no_byte n i

no_bit : (n : ℕ) → bit_at zeros n ≡ false
unfolding zeros
no_bit n = rw (no_byte 4096 (n / 8)) (bit_of_zero (n % 8))

zeros_length : length zeros ≡ 4096
unfolding zeros
zeros_length = length-replicate {A = ℕ} 4096 0

setup : Added zeros zeros zeros
setup = added zeros zeros zeros zeros_length zeros_length zeros_length

no_port : (n : ℕ) → port_intercept zeros zeros n ≡ false
unfolding port_intercept
no_port n = rw (same (in_a n)) (no_bit (port_index n))
  where
    same : (x : Bool) → cond x zeros zeros ≡ zeros
    same true = refl
    same false = refl

port_added : (n : ℕ) → port_intercept (io_bitmap_set zeros zeros).a (io_bitmap_set zeros zeros).b n ≡ eqb n QEMU_EXIT_PORT
port_added n = setup.ports n ∙ ap (λ (x : Bool). eqb n QEMU_EXIT_PORT || x) (no_port n) ∙ or_false (eqb n QEMU_EXIT_PORT)
  where
    or_false : (x : Bool) → (x || false) ≡ x
    or_false true = refl
    or_false false = refl

msr_added : (x : Access) (n : ℕ) → IsMsr n → msr_intercept (msr_bitmap_set zeros).frame x n ≡ (in_range X2APIC_MSRS X2APIC_COUNT n || (eqb n IA32_UMWAIT_CONTROL || false))
msr_added x n w = setup.msrs x n w ∙ ap (λ (y : Bool). in_range X2APIC_MSRS X2APIC_COUNT n || (eqb n IA32_UMWAIT_CONTROL || y)) (no_bit (msr_index x n))

-- ---- the sheet

pub setup_sheet_lem : setup_sheet ≡ setup_text
unfolding sheet_of flat_map hex_digit decimal_column
setup_sheet_lem =
    let a = (io_bitmap_set zeros zeros).a in
    let b = (io_bitmap_set zeros zeros).b in
    let m = (msr_bitmap_set zeros).frame in
    let p = ports_found (port_intercept a b) port_added in
    let r = msrs_found (msr_intercept m Read) (msr_added Read) in
    let w = msrs_found (msr_intercept m Write) (msr_added Write) in
    let tp = totals (port_intercept a b) ports ∙ ap items_of p in
    let tr = totals (msr_intercept m Read) msrs ∙ ap items_of r in
    let tw = totals (msr_intercept m Write) msrs ∙ ap items_of w in
    rw (tp, tr, tw, p, r, w)
