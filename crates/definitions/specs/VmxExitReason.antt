-- The basic exit reasons (SDM 3D, appendix C) by their names in definitions.rs. Assumes nothing.
use Rattle.std.specs.Prelude.{ℕ}

abbrev pub EXCEPTION_NMI : ℕ
EXCEPTION_NMI = 0

abbrev pub EXTERNAL_INTERRUPT : ℕ
EXTERNAL_INTERRUPT = 1

abbrev pub TRIPLE_FAULT : ℕ
TRIPLE_FAULT = 2

abbrev pub INIT : ℕ
INIT = 3

abbrev pub SIPI : ℕ
SIPI = 4

abbrev pub SMI : ℕ
SMI = 5

abbrev pub OTHER_SMI : ℕ
OTHER_SMI = 6

abbrev pub INTERRUPT_WINDOW : ℕ
INTERRUPT_WINDOW = 7

abbrev pub NMI_WINDOW : ℕ
NMI_WINDOW = 8

abbrev pub TASK_SWITCH : ℕ
TASK_SWITCH = 9

abbrev pub CPUID : ℕ
CPUID = 10

abbrev pub GETSEC : ℕ
GETSEC = 11

abbrev pub HLT : ℕ
HLT = 12

abbrev pub INVD : ℕ
INVD = 13

abbrev pub INVLPG : ℕ
INVLPG = 14

abbrev pub RDPMC : ℕ
RDPMC = 15

abbrev pub RDTSC : ℕ
RDTSC = 16

abbrev pub RSM : ℕ
RSM = 17

abbrev pub VMCALL : ℕ
VMCALL = 18

abbrev pub VMCLEAR : ℕ
VMCLEAR = 19

abbrev pub VMLAUNCH : ℕ
VMLAUNCH = 20

abbrev pub VMPTRLD : ℕ
VMPTRLD = 21

abbrev pub VMPTRST : ℕ
VMPTRST = 22

abbrev pub VMREAD : ℕ
VMREAD = 23

abbrev pub VMRESUME : ℕ
VMRESUME = 24

abbrev pub VMWRITE : ℕ
VMWRITE = 25

abbrev pub VMOFF : ℕ
VMOFF = 26

abbrev pub VMON : ℕ
VMON = 27

abbrev pub CR_ACCESS : ℕ
CR_ACCESS = 28

abbrev pub DR_ACCESS : ℕ
DR_ACCESS = 29

abbrev pub IO_INSTRUCTION : ℕ
IO_INSTRUCTION = 30

abbrev pub MSR_READ : ℕ
MSR_READ = 31

abbrev pub MSR_WRITE : ℕ
MSR_WRITE = 32

abbrev pub INVALID_GUEST_STATE : ℕ
INVALID_GUEST_STATE = 33

abbrev pub MSR_LOAD_FAIL : ℕ
MSR_LOAD_FAIL = 34

abbrev pub MWAIT_INSTRUCTION : ℕ
MWAIT_INSTRUCTION = 36

abbrev pub MONITOR_TRAP_FLAG : ℕ
MONITOR_TRAP_FLAG = 37

abbrev pub MONITOR_INSTRUCTION : ℕ
MONITOR_INSTRUCTION = 39

abbrev pub PAUSE_INSTRUCTION : ℕ
PAUSE_INSTRUCTION = 40

abbrev pub MCE_DURING_VMENTRY : ℕ
MCE_DURING_VMENTRY = 41

abbrev pub TPR_BELOW_THRESHOLD : ℕ
TPR_BELOW_THRESHOLD = 43

abbrev pub APIC_ACCESS : ℕ
APIC_ACCESS = 44

abbrev pub VIRTUALIZED_EOI : ℕ
VIRTUALIZED_EOI = 45

abbrev pub GDTR_IDTR : ℕ
GDTR_IDTR = 46

abbrev pub LDTR_TR : ℕ
LDTR_TR = 47

abbrev pub EPT_VIOLATION : ℕ
EPT_VIOLATION = 48

abbrev pub EPT_MISCONFIG : ℕ
EPT_MISCONFIG = 49

abbrev pub INVEPT : ℕ
INVEPT = 50

abbrev pub RDTSCP : ℕ
RDTSCP = 51

abbrev pub PREEMPTION_TIMER : ℕ
PREEMPTION_TIMER = 52

abbrev pub INVVPID : ℕ
INVVPID = 53

abbrev pub WBINVD : ℕ
WBINVD = 54

abbrev pub XSETBV : ℕ
XSETBV = 55

abbrev pub APIC_WRITE : ℕ
APIC_WRITE = 56

abbrev pub RDRAND : ℕ
RDRAND = 57

abbrev pub INVPCID : ℕ
INVPCID = 58

abbrev pub VMFUNC : ℕ
VMFUNC = 59

abbrev pub ENCLS : ℕ
ENCLS = 60

abbrev pub RDSEED : ℕ
RDSEED = 61

abbrev pub PML_FULL : ℕ
PML_FULL = 62

abbrev pub XSAVES : ℕ
XSAVES = 63

abbrev pub XRSTORS : ℕ
XRSTORS = 64

abbrev pub PCONFIG : ℕ
PCONFIG = 65

abbrev pub SPP_EVENT : ℕ
SPP_EVENT = 66

abbrev pub UMWAIT : ℕ
UMWAIT = 67

abbrev pub TPAUSE : ℕ
TPAUSE = 68

abbrev pub LOADIWKEY : ℕ
LOADIWKEY = 69
