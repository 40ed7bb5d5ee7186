-- Why digits spell no bytes.
use Rattle.hex.specs.declared.error.FromHexError.{FromHexError}
use Rattle.hex.specs.declared.error.FromHexError.TheVariants.{InvalidHexCharacter, OddLength, InvalidStringLength, OutOfMemory}
use Rattle.line_words.specs.declared.line_fault.LineFault.{LineFault}
use Rattle.line_words.specs.declared.line_fault.LineFault.TheVariants.{Bad, NoMemory}

-- the fault of a line whose digits were refused
abbrev pub fault_of : FromHexError → LineFault
fault_of (InvalidHexCharacter c index) = Bad
fault_of OddLength = Bad
fault_of InvalidStringLength = Bad
fault_of OutOfMemory = NoMemory
