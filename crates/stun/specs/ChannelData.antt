-- Interface. The channel message of a value in the code.
use Rattle.stun.specs.Channels.{ChannelMessage}
use Rattle.stun.specs.declared.channel.ChannelData.{ChannelData}

abbrev pub channel_message : ChannelData → ChannelMessage
channel_message c = record { number = c.number; bytes = c.bytes.now }
