-- Laws of the part that holds a port: it is not empty, and an accepted edit of one port changes its first byte. Assumes nothing.
use mathlib.Core.Path.{◌≡◌}
use mathlib.Core.Bool.{Bool}
use mathlib.Core.List.{List}
use mathlib.Core.Logic.{dite}
use Prim.Native.Nat.{ℕ, ◌+◌, ◌-◌, ◌/◌, ◌%◌, ◌≤◌, ◌<◌}
use native.Mathlib.Nat.{add-zero}
use native.Mathlib.Decide.{dec_lt}
use native.Mathlib.Omega.{arith}
use lib.ListN.{length, get_or, set, length-drop}
use lib.Seq.{get_or-drop}
use denote.Ref.{Bor}
use borrow.Author.Tests.{lt-ltb, le-ltb, eq-eqb}
use Rattle.bits.specs.Words.{with_bit}
use Rattle.structs.specs.Bitmap.{set_bit}
use Rattle.structs.specs.Frames.{port_index, set_port, set_ports, port_refusal, edit_ports}
use Rattle.structs.specs.PortPart.{Part, port_part}

module _ (a b : Bor (List ℕ)) (port : ℕ) (part : Part) (e : part ≡ port_part a b port) (la : length a.now ≡ 4096) (lb : length b.now ≡ 4096) where
  pub part_length : port < 0x1_0000 → 0 < length part.bytes
  unfolding port_part port_index
  part_length h =
      rw e
      (simp (eq-eqb (length a.now) 4096 la, eq-eqb (length b.now) 4096 lb, lt-ltb port 0x1_0000 h)
      (dite (dec_lt port 0x8000)
      (λ l. simp (lt-ltb port 0x8000 l, length-drop) (omega arith))
      (λ g. simp (le-ltb port 0x8000 (omega arith), length-drop) (omega arith))))

  pub one_port_a : (v : Bool) → port < 0x8000
      → edit_ports a.now b.now port 1 v ≡ record { refusal = 0; a = set a.now (port / 8) (with_bit (port % 8) v (get_or part.bytes 0 0)); b = b.now }
  unfolding port_part port_index port_refusal edit_ports set_ports set_port set_bit
  one_port_a v l =
      rw e
      (simp (eq-eqb (length a.now) 4096 la, eq-eqb (length b.now) 4096 lb, le-ltb 0x1_0000 (port + 1) (omega arith), add-zero, lt-ltb port 0x8000 l, get_or-drop))

  pub one_port_b : (v : Bool) → 0x8000 ≤ port → port < 0x1_0000
      → edit_ports a.now b.now port 1 v ≡ record { refusal = 0; a = a.now; b = set b.now ((port - 0x8000) / 8) (with_bit (port % 8) v (get_or part.bytes 0 0)) }
  unfolding port_part port_index port_refusal edit_ports set_ports set_port set_bit
  one_port_b v g h =
      let m : (port - 0x8000) % 8 ≡ port % 8 = omega arith in
      rw e
      (simp (eq-eqb (length a.now) 4096 la, eq-eqb (length b.now) 4096 lb, le-ltb 0x1_0000 (port + 1) (omega arith), add-zero, le-ltb port 0x8000 g, lt-ltb port 0x1_0000 h, get_or-drop, m))
