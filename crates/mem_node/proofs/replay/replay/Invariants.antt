use Rattle.std.proofs.Common.{◌≡◌, ◌+◌, take, length}
use Rattle.disk_model.specs.LogBytes.{log_bytes}
use Rattle.mem_node.specs.Disk.{Makes}
use Rattle.mem_rules.specs.Memory.{state_of}
use Rattle.mem_node.proofs.replay.replay.Given as goal

-- the entries so far made what is there, and the next gate is behind them
abbrev pub invariant-loop-bytes : goal.invariant-loop-bytes
invariant-loop-bytes l = record {
  setup : l.memory.setup ≡ l.fn.memory.setup;
  made : Makes l.fn.memory.setup (state_of l.fn.memory).image (take l.bytes-index l.entries) (state_of l.memory);
  there : l.at ≡ l.fn.base + length (log_bytes (take l.bytes-index l.entries));
}
