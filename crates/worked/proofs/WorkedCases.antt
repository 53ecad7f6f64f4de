-- Each case that document 01 works by hand comes out as it should: one computed test over the table. Assumes nothing.
use mathlib.Core.Path.{◌≡◌, refl}
use mathlib.Core.List.{map}
use Rattle.definitions.specs.Interruption.{type_number, from_vector, is_soft}
use Rattle.vmcs.specs.Control.{control_word, set_control}
use Rattle.vcpu_session.specs.Session.{new_session}
use Rattle.vcpu_events.specs.Entry.{code_in, code_of, with_code, with_length, injected}
use Rattle.structs.specs.EPTPointer.{ept_pointer}
use Rattle.structs.specs.Frames.{port_index, quarter_of}
use Rattle.bits.specs.LittleEndian.{number_of}
use Rattle.vcpu_answers.specs.Answer.{answer_words, io_data, is_shutdown, is_width, io_access, io_exit, io_answer}
use Rattle.vcpu_answers.specs.Cpuid.{vendor_info, leaf_words}
use Rattle.worked.specs.Worked.{Case, worked}

pub all_as_wanted : map (λ (c : Case). c.given) worked ≡ map (λ (c : Case). c.wanted) worked
unfolding control_word set_control type_number from_vector is_soft new_session code_in code_of with_code with_length injected ept_pointer port_index quarter_of number_of vendor_info leaf_words answer_words io_data is_shutdown is_width io_access io_exit io_answer
all_as_wanted = refl
