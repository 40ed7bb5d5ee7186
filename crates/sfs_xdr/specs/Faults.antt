-- What a fault in a value is told as where the value belongs to a procedure.
use Rattle.sfs_xdr.specs.declared.arg_fault.ArgFault.{ArgFault}
use Rattle.sfs_xdr.specs.declared.arg_fault.ArgFault.TheVariants as fault
use Rattle.sfs_xdr.specs.declared.item_fault.ItemFault.{ItemFault}
use Rattle.sfs_xdr.specs.declared.item_fault.ItemFault.TheVariants as item

abbrev pub fault_of : ItemFault → ArgFault
fault_of item.Malformed = fault.Garbage
fault_of item.NoMemory = fault.NoMemory
