-- The byte block of setup's arguments: where each part starts. Nothing lies between the parts, and numbers stand least significant byte first. Assumes nothing.
use Rattle.std.specs.Prelude.{ℕ}

abbrev pub LENGTH : ℕ
LENGTH = 273

-- the host's state, in the order of setup_vmcs_host: numbers of 8 bytes, selectors of 2
abbrev pub HOST_PAT : ℕ
HOST_PAT = 0

abbrev pub HOST_EFER : ℕ
HOST_EFER = 8

abbrev pub HOST_CR0 : ℕ
HOST_CR0 = 16

abbrev pub HOST_CR3 : ℕ
HOST_CR3 = 24

abbrev pub HOST_CR4 : ℕ
HOST_CR4 = 32

abbrev pub HOST_ES : ℕ
HOST_ES = 40

abbrev pub HOST_CS : ℕ
HOST_CS = 42

abbrev pub HOST_SS : ℕ
HOST_SS = 44

abbrev pub HOST_DS : ℕ
HOST_DS = 46

abbrev pub HOST_FS : ℕ
HOST_FS = 48

abbrev pub HOST_GS : ℕ
HOST_GS = 50

abbrev pub HOST_FS_BASE : ℕ
HOST_FS_BASE = 52

abbrev pub HOST_GS_BASE : ℕ
HOST_GS_BASE = 60

abbrev pub HOST_TR : ℕ
HOST_TR = 68

abbrev pub HOST_TR_BASE : ℕ
HOST_TR_BASE = 70

abbrev pub HOST_GDTR_BASE : ℕ
HOST_GDTR_BASE = 78

abbrev pub HOST_IDTR_BASE : ℕ
HOST_IDTR_BASE = 86

abbrev pub HOST_RIP : ℕ
HOST_RIP = 94

-- the guest's first RIP, and its IA32_PAT: 8 bytes each
abbrev pub ENTRY : ℕ
ENTRY = 102

abbrev pub GUEST_PAT : ℕ
GUEST_PAT = 110

-- physical addresses of 8 bytes
abbrev pub EPT_ROOT : ℕ
EPT_ROOT = 118

abbrev pub IO_BITMAP_A : ℕ
IO_BITMAP_A = 126

abbrev pub IO_BITMAP_B : ℕ
IO_BITMAP_B = 134

abbrev pub MSR_BITMAPS : ℕ
MSR_BITMAPS = 142

-- the capability MSRs, whole: 8 bytes each. IA32_VMX_BASIC is 0x480, and so on to 0x484; 0x486 to 0x489; 0x48B; 0x48D to 0x490
abbrev pub VMX_BASIC : ℕ
VMX_BASIC = 150

abbrev pub PINBASED_CTLS : ℕ
PINBASED_CTLS = 158

abbrev pub PROCBASED_CTLS : ℕ
PROCBASED_CTLS = 166

abbrev pub EXIT_CTLS : ℕ
EXIT_CTLS = 174

abbrev pub ENTRY_CTLS : ℕ
ENTRY_CTLS = 182

abbrev pub CR0_FIXED0 : ℕ
CR0_FIXED0 = 190

abbrev pub CR0_FIXED1 : ℕ
CR0_FIXED1 = 198

abbrev pub CR4_FIXED0 : ℕ
CR4_FIXED0 = 206

abbrev pub CR4_FIXED1 : ℕ
CR4_FIXED1 = 214

abbrev pub PROCBASED_CTLS2 : ℕ
PROCBASED_CTLS2 = 222

abbrev pub TRUE_PINBASED_CTLS : ℕ
TRUE_PINBASED_CTLS = 230

abbrev pub TRUE_PROCBASED_CTLS : ℕ
TRUE_PROCBASED_CTLS = 238

abbrev pub TRUE_EXIT_CTLS : ℕ
TRUE_EXIT_CTLS = 246

abbrev pub TRUE_ENTRY_CTLS : ℕ
TRUE_ENTRY_CTLS = 254

-- the bits of XCR0 that the host supports: 8 bytes
abbrev pub XCR0_SUPPORTED : ℕ
XCR0_SUPPORTED = 262

-- yes/no bytes: what CPUID offers the guest
abbrev pub RDTSCP : ℕ
RDTSCP = 270

abbrev pub INVPCID : ℕ
INVPCID = 271

abbrev pub XSAVES : ℕ
XSAVES = 272
