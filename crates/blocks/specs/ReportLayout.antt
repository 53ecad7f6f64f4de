-- The byte block of an exit report: where each part starts. Nothing lies between the parts, and numbers stand least significant byte first. Assumes nothing.
use Rattle.std.specs.Prelude.{ℕ}

abbrev pub LENGTH : ℕ
LENGTH = 244

-- sixteen registers of 8 bytes, in the order of their encoding
abbrev pub REGS : ℕ
REGS = 0

-- the guest's fields
abbrev pub RIP : ℕ
RIP = 128

abbrev pub RSP : ℕ
RSP = 136

abbrev pub RFLAGS : ℕ
RFLAGS = 144

abbrev pub INTERRUPTIBILITY : ℕ
INTERRUPTIBILITY = 152

abbrev pub CR0 : ℕ
CR0 = 156

abbrev pub CR3 : ℕ
CR3 = 164

abbrev pub CR4 : ℕ
CR4 = 172

abbrev pub EFER : ℕ
EFER = 180

abbrev pub CS_BASE : ℕ
CS_BASE = 188

abbrev pub CS_RIGHTS : ℕ
CS_RIGHTS = 196

abbrev pub SS_RIGHTS : ℕ
SS_RIGHTS = 200

-- the exit words: the full reason, the qualification, the instruction's length, the interruption information and its error code
abbrev pub REASON : ℕ
REASON = 204

abbrev pub QUALIFICATION : ℕ
QUALIFICATION = 208

abbrev pub INSTRUCTION_LENGTH : ℕ
INSTRUCTION_LENGTH = 216

abbrev pub INTERRUPTION : ℕ
INTERRUPTION = 220

abbrev pub ERROR_CODE : ℕ
ERROR_CODE = 224

-- what CPUID gives the host for the guest's EAX and ECX
abbrev pub CPUID_EAX : ℕ
CPUID_EAX = 228

abbrev pub CPUID_EBX : ℕ
CPUID_EBX = 232

abbrev pub CPUID_ECX : ℕ
CPUID_ECX = 236

abbrev pub CPUID_EDX : ℕ
CPUID_EDX = 240
