-- What a handle owns: nothing where there is no desk, else the box of the desk.
use base.Fml.{Fml, ftrue}
use base.Stored.{Coded}
use denote.RawPtr.{Ptr}
use Rattle.std.specs.Prelude.{Option, None, Some}
use Rattle.std.specs.Coded.{coded_option}
use Rattle.std.specs.Box.Ownership.{box_owns}
use Rattle.std.specs.Global.{Global}
use Rattle.std_heap.specs.contracts.GlobalAllocator.TheImpl.{ghosts}
use Rattle.desk.specs.contracts.desk.Desk.{the_row}

abbrev pub handle_owns : Global → Ptr → Option the_row.Denot → Fml
handle_owns alloc at None = ftrue
handle_owns alloc at (Some desk) = box_owns (ghosts.dealloc_token alloc) the_row at desk

abbrev pub desk_coded : Coded (Option the_row.Denot)
desk_coded = coded_option the_row.coded
