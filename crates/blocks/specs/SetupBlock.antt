-- The arguments that a block of bytes spells, and which blocks are refused (document 01, "Setup" and refusal 2). Assumes nothing.
use Rattle.std.specs.Prelude.{ℕ, Bool, ◌&&◌, List, eqb, leb, length, drop}
use Rattle.bits.specs.LittleEndian.{little_endian}
use Rattle.record.specs.Runs.{flag_of}
use Rattle.vcpu_setup.specs.declared.HostWords.{HostWords}
use Rattle.vcpu_setup.specs.declared.Addresses.{Addresses}
use Rattle.vcpu_setup.specs.declared.CapabilityMsrs.{CapabilityMsrs}
use Rattle.vcpu_setup.specs.declared.Features.{Features}
use Rattle.vcpu_setup.specs.declared.Arguments.{Arguments}
use Rattle.blocks.specs.SetupLayout as Layout

unfoldable pub host_of : List ℕ → HostWords
host_of b =
    record {
      pat = little_endian 8 (drop Layout.HOST_PAT b);
      efer = little_endian 8 (drop Layout.HOST_EFER b);
      cr0 = little_endian 8 (drop Layout.HOST_CR0 b);
      cr3 = little_endian 8 (drop Layout.HOST_CR3 b);
      cr4 = little_endian 8 (drop Layout.HOST_CR4 b);
      es = little_endian 2 (drop Layout.HOST_ES b);
      cs = little_endian 2 (drop Layout.HOST_CS b);
      ss = little_endian 2 (drop Layout.HOST_SS b);
      ds = little_endian 2 (drop Layout.HOST_DS b);
      fs = little_endian 2 (drop Layout.HOST_FS b);
      gs = little_endian 2 (drop Layout.HOST_GS b);
      fsbase = little_endian 8 (drop Layout.HOST_FS_BASE b);
      gsbase = little_endian 8 (drop Layout.HOST_GS_BASE b);
      tr = little_endian 2 (drop Layout.HOST_TR b);
      trbase = little_endian 8 (drop Layout.HOST_TR_BASE b);
      gdtrbase = little_endian 8 (drop Layout.HOST_GDTR_BASE b);
      idtrbase = little_endian 8 (drop Layout.HOST_IDTR_BASE b);
      rip = little_endian 8 (drop Layout.HOST_RIP b);
    }

unfoldable pub addresses_of : List ℕ → Addresses
addresses_of b =
    record {
      eptroot = little_endian 8 (drop Layout.EPT_ROOT b);
      bitmapa = little_endian 8 (drop Layout.IO_BITMAP_A b);
      bitmapb = little_endian 8 (drop Layout.IO_BITMAP_B b);
      bitmapmsr = little_endian 8 (drop Layout.MSR_BITMAPS b);
    }

unfoldable pub msrs_of : List ℕ → CapabilityMsrs
msrs_of b =
    record {
      basic = little_endian 8 (drop Layout.VMX_BASIC b);
      pinbased = little_endian 8 (drop Layout.PINBASED_CTLS b);
      procbased = little_endian 8 (drop Layout.PROCBASED_CTLS b);
      exit = little_endian 8 (drop Layout.EXIT_CTLS b);
      entry = little_endian 8 (drop Layout.ENTRY_CTLS b);
      cr0fixed0 = little_endian 8 (drop Layout.CR0_FIXED0 b);
      cr0fixed1 = little_endian 8 (drop Layout.CR0_FIXED1 b);
      cr4fixed0 = little_endian 8 (drop Layout.CR4_FIXED0 b);
      cr4fixed1 = little_endian 8 (drop Layout.CR4_FIXED1 b);
      procbased2 = little_endian 8 (drop Layout.PROCBASED_CTLS2 b);
      truepinbased = little_endian 8 (drop Layout.TRUE_PINBASED_CTLS b);
      trueprocbased = little_endian 8 (drop Layout.TRUE_PROCBASED_CTLS b);
      trueexit = little_endian 8 (drop Layout.TRUE_EXIT_CTLS b);
      trueentry = little_endian 8 (drop Layout.TRUE_ENTRY_CTLS b);
    }

unfoldable pub features_of : List ℕ → Features
features_of b =
    record {
      rdtscp = flag_of (drop Layout.RDTSCP b);
      invpcid = flag_of (drop Layout.INVPCID b);
      xsaves = flag_of (drop Layout.XSAVES b);
    }

unfoldable pub arguments_of : List ℕ → Arguments
arguments_of b =
    record {
      host = host_of b;
      entry = little_endian 8 (drop Layout.ENTRY b);
      pat = little_endian 8 (drop Layout.GUEST_PAT b);
      addresses = addresses_of b;
      msrs = msrs_of b;
      xcr0supported = little_endian 8 (drop Layout.XCR0_SUPPORTED b);
      features = features_of b;
    }

-- 2 is its negation: a wrong length, or a yes/no byte other than 0 and 1
unfoldable pub block_accepted : List ℕ → Bool
block_accepted b =
    eqb (length b) Layout.LENGTH
    && leb (little_endian 1 (drop Layout.RDTSCP b)) 1
    && leb (little_endian 1 (drop Layout.INVPCID b)) 1
    && leb (little_endian 1 (drop Layout.XSAVES b)) 1
