-- The trap sheet of the frames that setup leaves over zeros, typed by the words of document 02, N2: proofs/TrapSheet.antt shows that the definitions give this text.
-- Assumes nothing.
use Rattle.std.specs.Prelude.{ℕ, List, ◌++◌, replicate}
use Rattle.text.specs.Ascii.{ascii}
use Rattle.trap_sheet.specs.Sheet.{sheet_of}
use Rattle.vcpu_setup.specs.Bitmaps.{io_bitmap_set, msr_bitmap_set}

-- a frame that traps nothing
unfoldable pub zeros : List ℕ
zeros = replicate 4096 0

abbrev pub setup_sheet : List ℕ
setup_sheet = sheet_of (io_bitmap_set zeros zeros).a (io_bitmap_set zeros zeros).b (msr_bitmap_set zeros).frame

abbrev pub setup_text : List ℕ
setup_text =
    ascii "port                                   1\n"
    ++ ascii "read                                  65\n"
    ++ ascii "writ                                  65\n"
    ++ ascii "port  00000604  00000604               1\n"
    ++ ascii "read  000000e1  000000e1               1\n"
    ++ ascii "read  00000800  0000083f              64\n"
    ++ ascii "writ  000000e1  000000e1               1\n"
    ++ ascii "writ  00000800  0000083f              64\n"
