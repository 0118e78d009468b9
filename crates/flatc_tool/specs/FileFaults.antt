-- What reading a file may be refused as.
use Rattle.fb_heard.specs.declared.heard.TakeFault.{TakeFault}
use Rattle.fb_heard.specs.declared.heard.TakeFault.TheVariants as the_taken
use Rattle.fb_faults.specs.declared.faults.ToolFault.{ToolFault}
use Rattle.fb_faults.specs.declared.faults.ToolFault.TheVariants.{FileRead, FileTooLong, Memory}

abbrev pub fault_of : TakeFault → ToolFault
fault_of (the_taken.Failed e) = FileRead
fault_of the_taken.TooLong = FileTooLong
fault_of the_taken.Memory = Memory

abbrev pub IsOfReading : ToolFault → Type 0
IsOfReading FileRead = Unit {0}
IsOfReading FileTooLong = Unit {0}
IsOfReading Memory = Unit {0}
IsOfReading _ = ⊥
