-- What setup writes fits its fields, and what it keeps fits its types: the arguments of a block of bytes do. Assumes nothing.
use Prim.Native.Nat.{ℕ, ◌^◌, ◌<◌}
use mathlib.Core.Path.{refl}
use mathlib.Core.Bool.{Bool, true, false}
use mathlib.Core.List.{List, [], ◌∷◌, ◌++◌}
use native.Mathlib.Omega.{arith}
use native.Mathlib.Nat.{one-le-pow, lt_of_le_of_lt}
use lib.Bits.{bit_and, bit_or, or_lt, and_le_l, and_le_r}
use lib.Dec.{lit<}
use lib.ListN.{drop}
use Rattle.bits.specs.Words.{bit, bit_not, low32, high32}
use Rattle.bits.specs.LittleEndian.{little_endian, Below}
use Rattle.bits.proofs.Each.{◌⊗◌}
use Rattle.bits.proofs.LittleEndianLaws.{below_drop, little_below}
use Rattle.bits.proofs.Tells.{cond_all}
use Rattle.structs.specs.EPTPointer.{ept_pointer}
use Rattle.vmcs.specs.Control.{control_word}
use Rattle.vmcs.specs.Cr.{cr0_free, cr0_off, first_cr0}
use Rattle.vmcs.specs.Writes.{Write}
use Rattle.vcpu_setup.specs.Laws.{Typed}
use Rattle.vcpu_setup.specs.Capability.{used, capabilities_of}
use Rattle.vcpu_setup.specs.Words.{secondary_set, setup_words}
use Rattle.vcpu_setup.specs.Writes.{host_writes, cr_writes, segments_writes, guest_writes, control_writes, cr0_of, cr4_of, words_of, setup_writes}
use Rattle.vcpu_setup.specs.declared.Features.{Features}
use Rattle.blocks.specs.SetupLayout as Layout
use Rattle.blocks.specs.SetupBlock.{host_of, addresses_of, msrs_of, features_of, arguments_of}
use Rattle.record.specs.Fitting.{CapabilitiesFit}
use Rattle.calls.proofs.Fields.{AllFit, all_fit_lem}

-- ---- words

-- the complement of a word of w bits is one
not_fits : (w a : ℕ) → bit_not w a < 2 ^ w
not_fits w a = omega (arith, one-le-pow w 2 (omega arith))

pub cr_value : (val must0 must1 : ℕ) → must0 < 2 ^ 64 → must1 < 2 ^ 64 → bit_or (bit_and val must0) must1 < 2 ^ 64
cr_value val must0 must1 h k = or_lt 64 (bit_and val must0) must1 (lt_of_le_of_lt (and_le_r val must0) h) k

pub cr_mask : (must0 must1 : ℕ) → must1 < 2 ^ 64 → bit_or must1 (bit_not 64 must0) < 2 ^ 64
cr_mask must0 must1 k = or_lt 64 must1 (bit_not 64 must0) k (not_fits 64 must0)

pub word_fits : (allowed0 allowed1 old set clear : ℕ) → allowed0 < 2 ^ 32 → set < 2 ^ 32 → control_word 32 allowed0 allowed1 old set clear < 2 ^ 32
unfolding control_word
word_fits allowed0 allowed1 old set clear h k =
    or_lt 32 (bit_or allowed0 (bit_and (bit_and (bit_and (bit_not 32 allowed0) allowed1) (bit_not 32 (bit_or set clear))) old)) set
    (or_lt 32 allowed0 (bit_and (bit_and (bit_and (bit_not 32 allowed0) allowed1) (bit_not 32 (bit_or set clear))) old) h
    (lt_of_le_of_lt (and_le_l (bit_and (bit_and (bit_not 32 allowed0) allowed1) (bit_not 32 (bit_or set clear))) old)
    (lt_of_le_of_lt (and_le_l (bit_and (bit_not 32 allowed0) allowed1) (bit_not 32 (bit_or set clear)))
    (lt_of_le_of_lt (and_le_l (bit_not 32 allowed0) allowed1) (not_fits 32 allowed0))))) k

pointer_fits : (root : ℕ) → root < 2 ^ 64 → ept_pointer root < 2 ^ 64
unfolding ept_pointer
pointer_fits root h =
    or_lt 64 _ _ (or_lt 64 _ _ (or_lt 64 _ _ (lt_of_le_of_lt (and_le_l root _) h) (lit< tt)) (lit< tt)) (lit< tt)

secondary_fits : (f : Features) → secondary_set f < 2 ^ 32
secondary_fits f = go f.rdtscp f.invpcid f.xsaves
  where
    go : (a b c : Bool) → secondary_set (record { rdtscp = a; invpcid = b; xsaves = c }) < 2 ^ 32
    go true true true = lit< tt
    go true true false = lit< tt
    go true false true = lit< tt
    go true false false = lit< tt
    go false true true = lit< tt
    go false true false = lit< tt
    go false false true = lit< tt
    go false false false = lit< tt

low_fits : (a : ℕ) → low32 a < 2 ^ 32
low_fits a = omega arith

high_fits : (a : ℕ) → a < 2 ^ 64 → high32 a < 2 ^ 32
high_fits a h = omega arith

-- a word used fits if both do
used_fits : (basic plain full : ℕ) → plain < 2 ^ 64 → full < 2 ^ 64 → used basic plain full < 2 ^ 64
unfolding used
used_fits basic plain full h k = cond_all (λ (x : ℕ). x < 2 ^ 64) (bit 55 basic) _ _ (λ _. k) (λ _. h)

-- ---- the writes

append_fits : (xs ys : List Write) → AllFit xs → AllFit ys → AllFit (xs ++ ys)
append_fits [] ys a b = b
append_fits (x ∷ xs) ys a b = (a.0, append_fits xs ys a.1 b)

module _ (block : List ℕ) (bytes : Below 256 block) where
  p8 : (o : ℕ) → little_endian 8 (drop o block) < 2 ^ 64
  p8 o = little_below 8 (drop o block) (below_drop o block bytes)

  p2 : (o : ℕ) → little_endian 2 (drop o block) < 2 ^ 16
  p2 o = little_below 2 (drop o block) (below_drop o block bytes)

  -- the word used, of a plain one and a TRUE one at their offsets
  abbrev used_of : ℕ → ℕ → ℕ
  used_of plain full = used (little_endian 8 (drop Layout.VMX_BASIC block)) (little_endian 8 (drop plain block)) (little_endian 8 (drop full block))

  host_fits : AllFit (host_writes (arguments_of block).host)
  unfolding arguments_of host_of
  host_fits =
      p8 Layout.HOST_PAT ⊗ p8 Layout.HOST_EFER ⊗ p8 Layout.HOST_CR0 ⊗ p8 Layout.HOST_CR3 ⊗ p8 Layout.HOST_CR4 ⊗ p2 Layout.HOST_ES
      ⊗ p2 Layout.HOST_CS ⊗ p2 Layout.HOST_SS ⊗ p2 Layout.HOST_DS ⊗ p2 Layout.HOST_FS ⊗ p2 Layout.HOST_GS ⊗ p8 Layout.HOST_FS_BASE
      ⊗ p8 Layout.HOST_GS_BASE ⊗ p2 Layout.HOST_TR ⊗ p8 Layout.HOST_TR_BASE ⊗ p8 Layout.HOST_GDTR_BASE ⊗ p8 Layout.HOST_IDTR_BASE
      ⊗ p8 Layout.HOST_RIP ⊗ lit< tt ⊗ lit< tt ⊗ lit< tt ⊗ tt

  cr_fits : AllFit (cr_writes (cr0_of (arguments_of block).msrs) (cr4_of (arguments_of block).msrs))
  unfolding arguments_of msrs_of
  cr_fits =
      let may = p8 Layout.CR0_FIXED1 in
      let must0 = lt_of_le_of_lt (and_le_l (little_endian 8 (drop Layout.CR0_FIXED1 block)) (bit_not 64 cr0_off)) may in
      let must1 = lt_of_le_of_lt (and_le_l (little_endian 8 (drop Layout.CR0_FIXED0 block)) (bit_not 64 cr0_free)) (p8 Layout.CR0_FIXED0) in
      cr_value first_cr0 _ _ must0 must1 ⊗ lit< tt ⊗ cr_mask _ _ must1
      ⊗ cr_value 0x2000 _ _ (p8 Layout.CR4_FIXED1) (p8 Layout.CR4_FIXED0) ⊗ lit< tt ⊗ cr_mask _ _ (p8 Layout.CR4_FIXED0) ⊗ tt

  segments_fit : AllFit segments_writes
  segments_fit =
      all_fit_lem segments_writes tt

  guest_fits : AllFit (guest_writes (arguments_of block).entry (arguments_of block).pat)
  unfolding arguments_of
  guest_fits =
      lit< tt ⊗ lit< tt ⊗ lit< tt ⊗ lit< tt ⊗ lit< tt ⊗ lit< tt ⊗ lit< tt ⊗ p8 Layout.ENTRY ⊗ lit< tt ⊗ lit< tt ⊗ lit< tt ⊗ lit< tt
      ⊗ lit< tt ⊗ lit< tt ⊗ lit< tt ⊗ lit< tt ⊗ lit< tt ⊗ lit< tt ⊗ p8 Layout.GUEST_PAT ⊗ lit< tt ⊗ tt

  control_fits : AllFit (control_writes (words_of (arguments_of block)) (ept_pointer (arguments_of block).addresses.eptroot) (arguments_of block).addresses)
  unfolding arguments_of addresses_of msrs_of setup_words
  control_fits =
      word_fits _ _ _ _ _ (low_fits (used_of Layout.PINBASED_CTLS Layout.TRUE_PINBASED_CTLS)) (lit< tt)
      ⊗ word_fits _ _ _ _ _ (low_fits (used_of Layout.PROCBASED_CTLS Layout.TRUE_PROCBASED_CTLS)) (lit< tt)
      ⊗ word_fits _ _ _ _ _ (low_fits (little_endian 8 (drop Layout.PROCBASED_CTLS2 block))) (secondary_fits (features_of block))
      ⊗ word_fits _ _ _ _ _ (low_fits (used_of Layout.EXIT_CTLS Layout.TRUE_EXIT_CTLS)) (lit< tt)
      ⊗ word_fits _ _ _ _ _ (low_fits (used_of Layout.ENTRY_CTLS Layout.TRUE_ENTRY_CTLS)) (lit< tt)
      ⊗ pointer_fits _ (p8 Layout.EPT_ROOT) ⊗ lit< tt ⊗ lit< tt ⊗ lit< tt ⊗ lit< tt ⊗ lit< tt ⊗ p8 Layout.IO_BITMAP_A
      ⊗ p8 Layout.IO_BITMAP_B ⊗ p8 Layout.MSR_BITMAPS ⊗ tt

  pub writes_fit : AllFit (setup_writes (arguments_of block))
  unfolding setup_writes
  writes_fit =
      let x = arguments_of block in
      let host = host_writes x.host in
      let cr = cr_writes (cr0_of x.msrs) (cr4_of x.msrs) in
      let guest = guest_writes x.entry x.pat in
      let control = control_writes (words_of x) (ept_pointer x.addresses.eptroot) x.addresses in
      append_fits (host ++ cr ++ segments_writes ++ guest) control
      (append_fits (host ++ cr ++ segments_writes) guest (append_fits (host ++ cr) segments_writes
      (append_fits host cr host_fits cr_fits) segments_fit) guest_fits)
      control_fits

  pub capabilities_fit_lem : CapabilitiesFit (capabilities_of (msrs_of block))
  unfolding msrs_of
  capabilities_fit_lem =
      record {
        pairs = record {
          sized = refl;
          each = (
            either Layout.PINBASED_CTLS Layout.TRUE_PINBASED_CTLS,
            (
              either Layout.PROCBASED_CTLS Layout.TRUE_PROCBASED_CTLS,
              (pair _ (p8 Layout.PROCBASED_CTLS2), (either Layout.EXIT_CTLS Layout.TRUE_EXIT_CTLS, (either Layout.ENTRY_CTLS Layout.TRUE_ENTRY_CTLS, tt))),
            ),
          );
        };
        cr0 = (p8 Layout.CR0_FIXED0, p8 Layout.CR0_FIXED1);
        cr4 = (p8 Layout.CR4_FIXED0, p8 Layout.CR4_FIXED1);
      }
    where
      pair : (x : ℕ) → x < 2 ^ 64 → (low32 x < 2 ^ 32) × (high32 x < 2 ^ 32)
      pair x h = (low_fits x, high_fits x h)

      either : (plain full : ℕ) → (low32 (used_of plain full) < 2 ^ 32) × (high32 (used_of plain full) < 2 ^ 32)
      either plain full = pair (used_of plain full) (used_fits _ _ _ (p8 plain) (p8 full))

  pub supported_fits : little_endian 8 (drop Layout.XCR0_SUPPORTED block) < 2 ^ 64
  supported_fits = p8 Layout.XCR0_SUPPORTED

  pub typed : Typed (msrs_of block)
  unfolding msrs_of
  typed = record { cr0fixed0 = p8 Layout.CR0_FIXED0; cr0fixed1 = p8 Layout.CR0_FIXED1; cr4fixed1 = p8 Layout.CR4_FIXED1 }
